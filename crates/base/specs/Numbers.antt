-- Numbers in bytes, highest byte first. Assumes nothing.
use Rattle.std.specs.Prelude.{ℕ, zero, suc, ◌/◌, ◌%◌, ◌^◌, List, [], ◌∷◌, take}
use Rattle.std.specs.Int.Digits.{number_from_digits}

-- The number in the first n bytes.
abbrev pub leading : ℕ → List ℕ → ℕ
leading n bs = number_from_digits 256 (take n bs)

-- The n lowest bytes of a number. It stays shut, since a message has many of them.
unfoldable pub big_endian : ℕ → ℕ → List ℕ
big_endian zero v = []
big_endian (suc n) v = v / 256 ^ n % 256 ∷ big_endian n v
