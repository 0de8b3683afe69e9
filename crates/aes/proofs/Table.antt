-- A rule of a table, proved at all of its entries by one test that antt computes, one entry after the other. Assumes nothing.
use Rattle.std.proofs.Common.{◌≡◌, ℕ, zero, suc, ◌+◌, ◌<◌, Bool, true, false, ◌&&◌, T, eqb, List, [], ◌∷◌, length, get_or, sym, refl, ap, ◌∙◌, le_of_suc-le-suc, not-suc-le-zero, add-zero, add-suc, suc-add, zero-add, eqb→eq}

left : (a b : Bool) → T (a && b) → T a
left true b t = tt
left false b t = t

right : (a b : Bool) → T (a && b) → T b
right true b t = t
right false b t = absurd t

-- Whether two lists are one.
abbrev pub same : List ℕ → List ℕ → Bool
same [] [] = true
same [] (y ∷ ys) = false
same (x ∷ xs) [] = false
same (x ∷ xs) (y ∷ ys) = eqb x y && same xs ys

one : (xs ys : List ℕ) → T (same xs ys) → xs ≡ ys
one [] [] t = refl
one [] (y ∷ ys) t = absurd t
one (x ∷ xs) [] t = absurd t
one (x ∷ xs) (y ∷ ys) t =
    let h : x ≡ y = eqb→eq x y (left (eqb x y) (same xs ys) t) in
    let k : xs ≡ ys = one xs ys (right (eqb x y) (same xs ys) t) in
    cc

-- Whether every entry, seen as bytes, is what its place asks, counted from i.
abbrev pub every : (ℕ → List ℕ) → (ℕ → List ℕ) → ℕ → List ℕ → Bool
every view rule i [] = true
every view rule i (x ∷ xs) = same (view x) (rule i) && every view rule (suc i) xs

from : (view rule : ℕ → List ℕ) (xs : List ℕ) (i : ℕ) → T (every view rule i xs) → (k : ℕ) → k < length xs → view (get_or xs k 0) ≡ rule (i + k)
from view rule [] i t k h = absurd (not-suc-le-zero h)
from view rule (x ∷ xs) i t zero h = one (view x) (rule i) (left (same (view x) (rule i)) (every view rule (suc i) xs) t) ∙ ap rule (sym (add-zero i))
from view rule (x ∷ xs) i t (suc k) h =
    from view rule xs (suc i) (right (same (view x) (rule i)) (every view rule (suc i) xs) t) k (le_of_suc-le-suc h)
    ∙ ap rule (suc-add i k ∙ sym (add-suc i k))

pub entry : (xs : List ℕ) (view rule : ℕ → List ℕ) → T (every view rule 0 xs) → (k : ℕ) → k < length xs → view (get_or xs k 0) ≡ rule k
entry xs view rule t k h = from view rule xs 0 t k h ∙ ap rule (zero-add k)
