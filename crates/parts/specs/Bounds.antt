-- How large a part can be. Assumes nothing.
use Rattle.std.specs.Prelude.{ℕ}

-- The most rows that a part has.
abbrev pub max_rows : ℕ
max_rows = 192
