-- The words of a row, two bytes at a time. Assumes nothing.
use Rattle.std.proofs.Common.{◌≡◌, ℕ, zero, suc, ◌+◌, ◌*◌, ◌/◌, ◌∙◌, ap, List, [], ◌∷◌, length, map, refl, arith}
use Rattle.std.specs.List.{fold}
use Rattle.std.specs.Simd.{first_chunks}
use Rattle.std.specs.Int.{w16, from_be_bytes}
use Rattle.loader.specs.Image.{add16, sum_bytes}

sum_words : (a n : ℕ) (bs : List ℕ) → length bs ≡ 2 * n → fold add16 a (map (from_be_bytes w16) (first_chunks 2 n bs)) ≡ sum_bytes a bs
sum_words a zero [] e = refl
sum_words a zero (x ∷ bs) e = absurd (omega arith)
sum_words a (suc n) [] e = absurd (omega arith)
sum_words a (suc n) (x ∷ []) e = absurd (omega arith)
sum_words a (suc n) (x ∷ y ∷ bs) e = sum_words (add16 a (x * 256 + y)) n bs (omega arith)

-- What folds the words of 64 bytes sums the bytes.
pub words_sum : (r a : ℕ) (bs : List ℕ) (ws : List (List ℕ)) → ws ≡ first_chunks 2 (length bs / 2) bs → length bs ≡ 64 → r ≡ fold add16 a (map (from_be_bytes w16) ws) → r ≡ sum_bytes a bs
words_sum r a bs ws e n f = f ∙ ap (λ ws. fold add16 a (map (from_be_bytes w16) ws)) e ∙ sum_words a (length bs / 2) bs (omega arith)
