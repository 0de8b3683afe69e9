-- The field of 256 elements, and the S-box, after FIPS 197. Assumes nothing.
use Rattle.std.specs.Prelude.{ℕ, zero, suc, ◌+◌, ◌-◌, ◌*◌, ◌/◌, ◌%◌, ◌^◌, bit_xor}

-- Times x, modulo x^8 + x^4 + x^3 + x + 1.
abbrev pub xtime : ℕ → ℕ
xtime a = bit_xor (a * 2 % 256) (a / 128 * 0x1b)

-- The lowest n bits of b times a.
abbrev pub mul_by : ℕ → ℕ → ℕ → ℕ
mul_by zero a b = 0
mul_by (suc n) a b = bit_xor (b % 2 * a) (mul_by n (xtime a) (b / 2))

-- The product of two elements.
unfoldable pub mul : ℕ → ℕ → ℕ
mul a b = mul_by 8 b a

-- The product of a^2, a^4, .. a^(2^n).
abbrev pub squares : ℕ → ℕ → ℕ
squares zero a = 1
squares (suc n) a = mul (mul a a) (squares n (mul a a))

-- The inverse, which is a^254: of 0 it is 0.
abbrev pub inverse : ℕ → ℕ
inverse a = squares 7 a

-- Eight bits turned k places to the left.
abbrev pub turned_left : ℕ → ℕ → ℕ
turned_left k b = b * 2 ^ k % 256 + b / 2 ^ (8 - k)

-- Each bit and the four below it, round the byte, and a constant.
abbrev pub affine : ℕ → ℕ
affine b = bit_xor b (bit_xor (turned_left 1 b) (bit_xor (turned_left 2 b) (bit_xor (turned_left 3 b) (bit_xor (turned_left 4 b) 0x63))))

-- The S-box, by its rule.
unfoldable pub sbox : ℕ → ℕ
sbox a = affine (inverse a)
