use Rattle.std.proofs.Common.{◌≡◌, map, replicate, vec_items, vec_len}
use Rattle.memory.specs.Model.{blank}
use Rattle.parts.proofs.blank_rows.Given as goal

abbrev pub invariant-loop : goal.invariant-loop
invariant-loop g l =
    (map g.R.Cell.means (vec_items l.cells) ≡ replicate l.counter blank) × (vec_len l.cells ≡ l.counter)
