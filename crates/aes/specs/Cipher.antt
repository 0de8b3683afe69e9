-- AES-128 after FIPS 197. A state and a round key are sixteen bytes, one column of four after the other. Assumes nothing.
use Rattle.std.specs.Prelude.{ℕ, zero, suc, List, [], ◌∷◌, ◌++◌, map, take, drop, bit_xor, slice_index}
use Rattle.aes.specs.Field.{xtime, mul, sbox}

-- Two lists of bytes, byte by byte: AddRoundKey.
abbrev pub xored : List ℕ → List ℕ → List ℕ
xored [] ys = []
xored (x ∷ xs) [] = x ∷ xs
xored (x ∷ xs) (y ∷ ys) = bit_xor x y ∷ xored xs ys

-- SubBytes.
abbrev pub sub_bytes : List ℕ → List ℕ
sub_bytes s = map sbox s

-- ShiftRows: row r moves r places to the left.
unfoldable pub shift_rows : List ℕ → List ℕ
shift_rows s =
    slice_index s 0 ∷ slice_index s 5 ∷ slice_index s 10 ∷ slice_index s 15
    ∷ slice_index s 4 ∷ slice_index s 9 ∷ slice_index s 14 ∷ slice_index s 3
    ∷ slice_index s 8 ∷ slice_index s 13 ∷ slice_index s 2 ∷ slice_index s 7
    ∷ slice_index s 12 ∷ slice_index s 1 ∷ slice_index s 6 ∷ slice_index s 11 ∷ []

-- The sum of four elements of the field.
abbrev pub sum : ℕ → ℕ → ℕ → ℕ → ℕ
sum a b c d = bit_xor (bit_xor (bit_xor a b) c) d

-- MixColumns at one column.
abbrev pub mixed_of : ℕ → ℕ → ℕ → ℕ → List ℕ
mixed_of a b c d =
    sum (mul 2 a) (mul 3 b) c d
    ∷ sum a (mul 2 b) (mul 3 c) d
    ∷ sum a b (mul 2 c) (mul 3 d)
    ∷ sum (mul 3 a) b c (mul 2 d) ∷ []

unfoldable pub mix_column : List ℕ → List ℕ
mix_column s = mixed_of (slice_index s 0) (slice_index s 1) (slice_index s 2) (slice_index s 3)

-- The column from a place on.
abbrev pub column : ℕ → List ℕ → List ℕ
column place s = take 4 (drop place s)

-- MixColumns.
unfoldable pub mix_columns : List ℕ → List ℕ
mix_columns s = mix_column (column 0 s) ++ (mix_column (column 4 s) ++ (mix_column (column 8 s) ++ mix_column (column 12 s)))

-- RotWord, SubWord and the round's constant, at a word.
unfoldable pub turned : ℕ → List ℕ → List ℕ
turned rcon w = bit_xor (sbox (slice_index w 1)) rcon ∷ sbox (slice_index w 2) ∷ sbox (slice_index w 3) ∷ sbox (slice_index w 0) ∷ []

-- The four words of the next round key.
abbrev pub word0 : ℕ → List ℕ → List ℕ
word0 rcon k = xored (column 0 k) (turned rcon (column 12 k))

abbrev pub word1 : ℕ → List ℕ → List ℕ
word1 rcon k = xored (column 4 k) (word0 rcon k)

abbrev pub word2 : ℕ → List ℕ → List ℕ
word2 rcon k = xored (column 8 k) (word1 rcon k)

abbrev pub word3 : ℕ → List ℕ → List ℕ
word3 rcon k = xored (column 12 k) (word2 rcon k)

unfoldable pub next_key : ℕ → List ℕ → List ℕ
next_key rcon k = word0 rcon k ++ (word1 rcon k ++ (word2 rcon k ++ word3 rcon k))

-- A round key and the n after it.
abbrev pub keys_from : ℕ → ℕ → List ℕ → List (List ℕ)
keys_from zero rcon k = k ∷ []
keys_from (suc n) rcon k = k ∷ keys_from n (xtime rcon) (next_key rcon k)

-- KeyExpansion: the eleven round keys.
unfoldable pub expanded : List ℕ → List (List ℕ)
expanded key = keys_from 10 1 key

-- A round under a round key, and the last round, which mixes no columns.
unfoldable pub one_round : List ℕ → List ℕ → List ℕ
one_round s k = xored (mix_columns (shift_rows (sub_bytes s))) k

unfoldable pub last_round : List ℕ → List ℕ → List ℕ
last_round s k = xored (shift_rows (sub_bytes s)) k

-- The first of some round keys.
abbrev pub first_key : List (List ℕ) → List ℕ
first_key [] = []
first_key (k ∷ ks) = k

-- n rounds and the last one, under the round keys ks.
abbrev pub rounds : ℕ → List ℕ → List (List ℕ) → List ℕ
rounds zero s ks = last_round s (first_key ks)
rounds (suc n) s ks = rounds n (one_round s (first_key ks)) (drop 1 ks)

-- Cipher: a block under the round keys ks.
unfoldable pub ciphered : List (List ℕ) → List ℕ → List ℕ
ciphered ks block = rounds 9 (xored block (first_key ks)) (drop 1 ks)

-- AES-128: a block under a key.
abbrev pub aes : List ℕ → List ℕ → List ℕ
aes key block = ciphered (expanded key) block
