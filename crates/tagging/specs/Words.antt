-- Words of 64 bits, and their bytes, the lowest first. Assumes nothing.
use Rattle.std.specs.Prelude.{ℕ, ◌+◌, ◌-◌, ◌*◌, ◌/◌, ◌%◌, ◌^◌, List, [], ◌∷◌, map, bit_or}
use Rattle.std.specs.List.{range_with_len}

-- Addition modulo 2 ^ 64, and a turn to the left by k bits.
abbrev pub add64 : ℕ → ℕ → ℕ
add64 a b = (a + b) % 2 ^ 64

abbrev pub turned : ℕ → ℕ → ℕ
turned x k = bit_or ((x * 2 ^ k) % 2 ^ 64) (x / 2 ^ (64 - k))

-- The number that bytes write, and the eight bytes of a number.
unfoldable pub low_first : List ℕ → ℕ
low_first [] = 0
low_first (b ∷ bs) = b + 256 * low_first bs

abbrev pub word_bytes : ℕ → List ℕ
word_bytes n = map (λ k. n / 256 ^ k % 256) (range_with_len 0 8)
