-- How many bytes a code and a tag have. Assumes nothing.
use Rattle.std.specs.Prelude.{◌≡◌, ℕ, zero, suc, List, [], ◌∷◌, length, drop, refl}
use Rattle.std.proofs.Common.{ap, arith}
use Rattle.std.proofs.lemmas.List.{length-take-le}
use Rattle.aes.specs.Cipher.{expanded, xored, sub_bytes, shift_rows, one_round, last_round, first_key, rounds, ciphered}
use Rattle.aes.specs.Mac.{mac_by, cmac, cmac_tag}

-- A block under round keys has sixteen bytes.
length-xored : (xs ys : List ℕ) → length (xored xs ys) ≡ length xs
length-xored [] ys = refl
length-xored (x ∷ xs) [] = refl
length-xored (x ∷ xs) (y ∷ ys) = ap suc (length-xored xs ys)

length-rounds : (n : ℕ) (s : List ℕ) (ks : List (List ℕ)) → length (rounds n s ks) ≡ 16
unfolding last_round shift_rows
length-rounds zero s ks = length-xored (shift_rows (sub_bytes s)) (first_key ks)
length-rounds (suc n) s ks = length-rounds n (one_round s (first_key ks)) (drop 1 ks)

pub length-cmac : (key text : List ℕ) → length (cmac key text) ≡ 16
unfolding ciphered mac_by
length-cmac key text = length-rounds 9 _ (drop 1 (expanded key))

-- A tag has eight.
pub length-cmac_tag : (key text : List ℕ) → length (cmac_tag key text) ≡ 8
unfolding cmac_tag
length-cmac_tag key text =
    let sixteen = length-cmac key text in
    length-take-le 8 (cmac key text) (omega arith)
