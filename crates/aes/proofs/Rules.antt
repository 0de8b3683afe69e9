-- The rules of the tables, each tested at its 256 entries by one computation. Assumes nothing.
use Rattle.std.proofs.Common.{◌≡◌, ℕ, ◌/◌, ◌<◌, List, [], ◌∷◌, get_or, ap, arith}
use Rattle.aes.specs.Field.{sbox, mul}
use Rattle.aes.proofs.Lists.{sbox_table, first_table, second_table, third_table, fourth_table}
use Rattle.aes.specs.Words.{word_bytes}
use Rattle.aes.proofs.Table.{entry}

-- What the first, the second, the third and the fourth byte of a column bring to the mixed column.
abbrev pub first_part : ℕ → List ℕ
first_part s = mul 2 s ∷ s ∷ s ∷ mul 3 s ∷ []

abbrev pub second_part : ℕ → List ℕ
second_part s = mul 3 s ∷ mul 2 s ∷ s ∷ s ∷ []

abbrev pub third_part : ℕ → List ℕ
third_part s = s ∷ mul 3 s ∷ mul 2 s ∷ s ∷ []

abbrev pub fourth_part : ℕ → List ℕ
fourth_part s = s ∷ s ∷ mul 3 s ∷ mul 2 s ∷ []

pub sbox_rule : (k : ℕ) → k < 256 → get_or sbox_table k 0 ≡ sbox k
unfolding sbox mul
sbox_rule k h = ap (λ (xs : List ℕ). get_or xs 0 0) (entry sbox_table (λ (x : ℕ). x ∷ []) (λ (k : ℕ). sbox k ∷ []) tt k h)

-- An entry of the S-box is a byte.
pub sbox_byte : (k : ℕ) → k < 256 → get_or sbox_table k 0 < 256
sbox_byte k h =
    let none = ap (λ (xs : List ℕ). get_or xs 0 0) (entry sbox_table (λ (x : ℕ). (x / 256) ∷ []) (λ (k : ℕ). 0 ∷ []) tt k h) in
    omega arith

pub first_rule : (k : ℕ) → k < 256 → word_bytes (get_or first_table k 0) ≡ first_part (sbox k)
unfolding sbox mul word_bytes
first_rule k h = entry first_table word_bytes (λ (k : ℕ). first_part (sbox k)) tt k h

pub second_rule : (k : ℕ) → k < 256 → word_bytes (get_or second_table k 0) ≡ second_part (sbox k)
unfolding sbox mul word_bytes
second_rule k h = entry second_table word_bytes (λ (k : ℕ). second_part (sbox k)) tt k h

pub third_rule : (k : ℕ) → k < 256 → word_bytes (get_or third_table k 0) ≡ third_part (sbox k)
unfolding sbox mul word_bytes
third_rule k h = entry third_table word_bytes (λ (k : ℕ). third_part (sbox k)) tt k h

pub fourth_rule : (k : ℕ) → k < 256 → word_bytes (get_or fourth_table k 0) ≡ fourth_part (sbox k)
unfolding sbox mul word_bytes
fourth_rule k h = entry fourth_table word_bytes (λ (k : ℕ). fourth_part (sbox k)) tt k h
