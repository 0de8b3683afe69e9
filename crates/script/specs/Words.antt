-- Numbers and bytes as a word writes them. Assumes nothing.
use Rattle.std.specs.Prelude.{ℕ, ◌+◌, ◌-◌, ◌*◌, ◌/◌, ◌%◌, Bool, cond, ◌&&◌, List, [], ◌∷◌, length, drop, Some, None, Option, ◌==◌, nat_le, nat_lt, slice_index}
use Rattle.std.specs.List.{flat_map}
use Rattle.std.specs.Option.{option_map, option_zip, option_and_then}

-- A number that is not too great, or none.
abbrev pub at_most : ℕ → Option ℕ → Option ℕ
at_most most None = None
at_most most (Some n) = cond (nat_le n most) (Some n) None

-- The value of a digit, `0` to `9` and lower-case `a` to `f`.
abbrev pub digit_of : ℕ → Option ℕ
digit_of c = cond (nat_lt c 48) None (cond (nat_lt c 58) (Some (c - 48)) (cond (nat_lt c 97) None (cond (nat_lt c 103) (Some (c - 87)) None)))

-- The value of a digit that is below the base.
abbrev pub digit_in : ℕ → ℕ → Option ℕ
digit_in base c = option_and_then (λ d. cond (nat_lt d base) (Some d) None) (digit_of c)

-- The number that digits write where those before them write n.
unfoldable pub number_from : ℕ → ℕ → List ℕ → Option ℕ
number_from base n [] = Some n
number_from base n (c ∷ cs) = option_and_then (λ d. number_from base (n * base + d) cs) (digit_in base c)

-- The number of one or more digits.
abbrev pub in_base : ℕ → List ℕ → Option ℕ
in_base base [] = None
in_base base (c ∷ cs) = number_from base 0 (c ∷ cs)

-- A word is hexadecimal if it begins with `0x`.
abbrev pub is_hex : List ℕ → Bool
is_hex word = slice_index word 0 == 48 && slice_index word 1 == 120

-- The number that a word writes.
abbrev pub number_of : List ℕ → Option ℕ
number_of word = cond (is_hex word) (in_base 16 (drop 2 word)) (in_base 10 word)

-- A word's number, where the greatest that fits is given.
unfoldable pub number_to : ℕ → List ℕ → Option ℕ
number_to most word = at_most most (number_of word)

-- The byte that two digits write.
abbrev pub byte_of : ℕ → ℕ → Option ℕ
byte_of a b = option_map (λ p. p.0 * 16 + p.1) (option_zip (digit_in 16 a) (digit_in 16 b))

-- The bytes that digits write, two for each.
unfoldable pub bytes_of : List ℕ → Option (List ℕ)
bytes_of [] = Some []
bytes_of (a ∷ []) = None
bytes_of (a ∷ (b ∷ rest)) = option_map (λ p. p.0 ∷ p.1) (option_zip (byte_of a b) (bytes_of rest))

-- A word's n bytes, where n is not 0.
unfoldable pub bytes_in : ℕ → List ℕ → Option (List ℕ)
bytes_in n word = cond (length word == 2 * n) (bytes_of word) None

-- A number of 8, 16, 32 or 64 bits, and the bytes of a row.
abbrev pub bits8 : List ℕ → Option ℕ
bits8 word = number_to 255 word

abbrev pub bits16 : List ℕ → Option ℕ
bits16 word = number_to 65535 word

abbrev pub bits32 : List ℕ → Option ℕ
bits32 word = number_to 4294967295 word

abbrev pub bits64 : List ℕ → Option ℕ
bits64 word = number_to 18446744073709551615 word

abbrev pub row_bytes : List ℕ → Option (List ℕ)
row_bytes word = bytes_in 64 word

-- How bytes are written: a digit in lower case, two for each byte.
abbrev pub hex_digit : ℕ → ℕ
hex_digit d = cond (nat_lt d 10) (48 + d) (87 + d)

abbrev pub hex_byte : ℕ → List ℕ
hex_byte b = hex_digit (b / 16) ∷ (hex_digit (b % 16) ∷ [])

abbrev pub hex_text : List ℕ → List ℕ
hex_text bs = flat_map hex_byte bs
