-- What the two counters count. Assumes nothing.
use Rattle.std.specs.Prelude.{ℕ}
use Rattle.cells.specs.declared.counter.Register.{Register}
use Rattle.cells.specs.declared.counter.Strip.{Strip}
use Rattle.cells.specs.Strip.{zeros}

-- A register holds its count.
abbrev pub register_count : Register → ℕ
register_count c = c.count

-- A strip counts its cleared bits.
abbrev pub strip_count : Strip → ℕ
strip_count s = zeros s.bytes
