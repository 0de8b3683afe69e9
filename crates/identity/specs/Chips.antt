-- Chip numbers: the twelve bytes of one. Assumes nothing.
use Rattle.std.specs.Prelude.{ℕ, ◌/◌, ◌%◌, ◌^◌, List, [], ◌∷◌}
use Rattle.identity.specs.declared.chip.Chip.{Chip}

-- The chip with a number.
abbrev pub chip : ℕ → Chip
chip n = record { number = n }

-- A number of 64 bits in eight bytes, highest byte first.
abbrev pub eight_bytes : ℕ → List ℕ
eight_bytes n =
    n / 2 ^ 56 ∷ n / 2 ^ 48 % 256 ∷ n / 2 ^ 40 % 256 ∷ n / 2 ^ 32 % 256 ∷ n / 2 ^ 24 % 256 ∷ n / 2 ^ 16 % 256 ∷ n / 2 ^ 8 % 256 ∷ n % 256 ∷ []

-- Four zero bytes, and the number.
abbrev pub chip_bytes : Chip → List ℕ
chip_bytes c = 0 ∷ 0 ∷ 0 ∷ 0 ∷ eight_bytes c.number
