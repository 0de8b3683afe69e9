-- AES-CMAC after RFC 4493. The cipher under the key is any function from blocks to blocks. Assumes nothing.
use Rattle.std.specs.Prelude.{ℕ, zero, suc, ◌+◌, ◌-◌, ◌*◌, ◌/◌, ◌%◌, cond, List, [], ◌∷◌, ◌++◌, length, take, drop, replicate, ◌==◌, bit_xor, slice_index}
use Rattle.aes.specs.Cipher.{aes, xored}

-- A block of zeros.
abbrev pub zero_block : List ℕ
zero_block = replicate 16 0

-- Bytes shifted by one bit to the left.
abbrev pub shifted : List ℕ → List ℕ
shifted [] = []
shifted (x ∷ xs) = (x * 2 % 256 + slice_index xs 0 / 128) ∷ shifted xs

-- A block shifted by one bit, and 0x87 added to its last byte where a bit fell out.
unfoldable pub doubled : List ℕ → List ℕ
doubled s = take 15 (shifted s) ++ (bit_xor (slice_index s 15 * 2 % 256) (slice_index s 0 / 128 * 0x87) ∷ [])

-- The subkeys K1 and K2.
abbrev pub subkey1 : (List ℕ → List ℕ) → List ℕ
subkey1 cipher = doubled (cipher zero_block)

abbrev pub subkey2 : (List ℕ → List ℕ) → List ℕ
subkey2 cipher = doubled (subkey1 cipher)

-- A rest of fewer than sixteen bytes, one bit, and zeros.
abbrev pub padded : List ℕ → List ℕ
padded rest = rest ++ (0x80 ∷ replicate (15 - length rest) 0)

-- The last block: whole and under K1, or padded and under K2.
abbrev pub last_block : (List ℕ → List ℕ) → List ℕ → List ℕ
last_block cipher rest = cond (length rest == 16) (xored rest (subkey1 cipher)) (xored (padded rest) (subkey2 cipher))

-- How many blocks of a text of n bytes stand before the last one.
abbrev pub before : ℕ → ℕ
before n = (n - 1) / 16

-- The first n blocks of a text, one after the other, from x on.
abbrev pub chained : (List ℕ → List ℕ) → ℕ → List ℕ → List ℕ → List ℕ
chained cipher zero x text = x
chained cipher (suc n) x text = chained cipher n (cipher (xored x (take 16 text))) (drop 16 text)

unfoldable pub mac_by : (List ℕ → List ℕ) → List ℕ → List ℕ
mac_by cipher text =
    cipher (xored (chained cipher (before (length text)) zero_block text) (last_block cipher (drop (before (length text) * 16) text)))

-- AES-CMAC of a text under a key.
abbrev pub cmac : List ℕ → List ℕ → List ℕ
cmac key text = mac_by (aes key) text

-- The tag: its first eight bytes.
unfoldable pub cmac_tag : List ℕ → List ℕ → List ℕ
cmac_tag key text = take 8 (cmac key text)
