-- The sum of words and of rows: order, and bounds. Assumes nothing.
use Rattle.std.proofs.Common.{◌≡◌, ℕ, ◌+◌, ◌-◌, ◌*◌, ◌<◌, cond, ltb, List, [], ◌∷◌, sym, refl, ap, ◌∙◌, add_comm, arith}
use Rattle.std.proofs.lemmas.Bool.{cond_both, ltb-true, ltb-false}
use Rattle.std.proofs.lemmas.Bool.Decides.{nat_tests}
use Rattle.std.proofs.lemmas.List.Sums.{fold-append}
use Rattle.std.specs.List.{AllByRecursion}
use Rattle.memory.specs.Model.{Row, shown_of}
use Rattle.loader.specs.Image.{add16, sum_bytes, sum_rows}
use Rattle.loader.specs.Laws.{OfBytes, bytes_total, total, SumLaws}

add-below : (a b : ℕ) → a < 65536 → b < 65536 → add16 a b < 65536
add-below a b la lb = cond_both (ltb (a + b) 65536) (a + b) (a + b - 65535) (λ x. x < 65536) (λ e. ltb-true (a + b) 65536 e) (λ e. omega arith)

add_commutes : (a b : ℕ) → add16 a b ≡ add16 b a
add_commutes a b = ap (λ n. cond (ltb n 65536) n (n - 65535)) (add_comm a b)

add-associates : (a b c : ℕ) → a < 65536 → b < 65536 → c < 65536 → add16 (add16 a b) c ≡ add16 a (add16 b c)
add-associates a b c la lb lc = grind (arith, nat_tests)

-- Two words may change places.
add_swaps : (a v w : ℕ) → a < 65536 → v < 65536 → w < 65536 → add16 (add16 a v) w ≡ add16 (add16 a w) v
add_swaps a v w la lv lw = add-associates a v w la lv lw ∙ ap (add16 a) (add_commutes v w) ∙ sym (add-associates a w v la lw lv)

word_below : (x y : ℕ) → x < 256 → y < 256 → x * 256 + y < 65536
word_below x y lx ly = omega arith

pub bytes_below : (a : ℕ) (bs : List ℕ) → a < 65536 → AllByRecursion (λ b. b < 256) bs → sum_bytes a bs < 65536
bytes_below a [] la t = la
bytes_below a (x ∷ []) la t = la
bytes_below a (x ∷ y ∷ bs) la t = bytes_below (add16 a (x * 256 + y)) bs (add-below a (x * 256 + y) la (word_below x y t.0 t.1.0)) t.1.1

-- A word may go before a row.
word_first : (a w : ℕ) (bs : List ℕ) → a < 65536 → w < 65536 → AllByRecursion (λ b. b < 256) bs → add16 (sum_bytes a bs) w ≡ sum_bytes (add16 a w) bs
word_first a w [] la lw t = refl
word_first a w (x ∷ []) la lw t = refl
word_first a w (x ∷ y ∷ bs) la lw t =
    let v : x * 256 + y < 65536 = word_below x y t.0 t.1.0 in
    word_first (add16 a (x * 256 + y)) w bs (add-below a (x * 256 + y) la v) lw t.1.1 ∙ ap (λ n. sum_bytes n bs) (add_swaps a (x * 256 + y) w la v lw)

rows_swap : (a : ℕ) (xs ys : List ℕ) → a < 65536 → AllByRecursion (λ b. b < 256) xs → AllByRecursion (λ b. b < 256) ys → sum_bytes (sum_bytes a xs) ys ≡ sum_bytes (sum_bytes a ys) xs
rows_swap a xs [] la s t = refl
rows_swap a xs (x ∷ []) la s t = refl
rows_swap a xs (x ∷ y ∷ ys) la s t =
    let v : x * 256 + y < 65536 = word_below x y t.0 t.1.0 in
    ap (λ n. sum_bytes n ys) (word_first a (x * 256 + y) xs la v s) ∙ rows_swap (add16 a (x * 256 + y)) xs ys (add-below a (x * 256 + y) la v) s t.1.1

pub rows-below : (a : ℕ) (rs : List Row) → a < 65536 → AllByRecursion OfBytes rs → sum_rows a rs < 65536
rows-below a [] la t = la
rows-below a (r ∷ rs) la t = rows-below (sum_bytes a (shown_of r)) rs (bytes_below a (shown_of r) la t.0) t.1

-- Whole carries are all that the sum lacks of the plain total.
add-carries : (a b : ℕ) → (k : ℕ) × (add16 a b + 65535 * k ≡ a + b)
add-carries a b = cond_both (ltb (a + b) 65536) (a + b) (a + b - 65535) (λ x. (k : ℕ) × (x + 65535 * k ≡ a + b)) (λ e. (0, omega arith)) (λ e. (1, omega (arith, ltb-false (a + b) 65536 e)))

bytes_carry : (a : ℕ) (bs : List ℕ) → (k : ℕ) × (sum_bytes a bs + 65535 * k ≡ a + bytes_total bs)
bytes_carry a [] = (0, omega arith)
bytes_carry a (x ∷ []) = (0, omega arith)
bytes_carry a (x ∷ y ∷ bs) =
    let s = add-carries a (x * 256 + y) in
    let r = bytes_carry (add16 a (x * 256 + y)) bs in
    (s.0 + r.0, omega arith)

rows_carry : (a : ℕ) (rs : List Row) → (k : ℕ) × (sum_rows a rs + 65535 * k ≡ a + total rs)
rows_carry a [] = (0, omega arith)
rows_carry a (r ∷ rs) =
    let s = bytes_carry a (shown_of r) in
    let t = rows_carry (sum_bytes a (shown_of r)) rs in
    (s.0 + t.0, omega arith)

-- Only zeros add up to 0.
add_none : (a b : ℕ) → add16 a b ≡ 0 → a + b ≡ 0
add_none a b = cond_both (ltb (a + b) 65536) (a + b) (a + b - 65535) (λ x. x ≡ 0 → a + b ≡ 0) (λ e z. z) (λ e z. omega (arith, ltb-false (a + b) 65536 e))

bytes-none : (a : ℕ) (bs : List ℕ) → sum_bytes a bs ≡ 0 → a + bytes_total bs ≡ 0
bytes-none a [] z = omega arith
bytes-none a (x ∷ []) z = omega arith
bytes-none a (x ∷ y ∷ bs) z =
    let r = bytes-none (add16 a (x * 256 + y)) bs z in
    let s : a + (x * 256 + y) ≡ 0 = add_none a (x * 256 + y) (omega arith) in
    omega arith

rows_none : (a : ℕ) (rs : List Row) → sum_rows a rs ≡ 0 → a + total rs ≡ 0
rows_none a [] z = omega arith
rows_none a (r ∷ rs) z =
    let t = rows_none (sum_bytes a (shown_of r)) rs z in
    let s : a + bytes_total (shown_of r) ≡ 0 = bytes-none a (shown_of r) (omega arith) in
    omega arith

full-total : (rs : List Row) → sum_rows 0 rs ≡ 65535 → (k : ℕ) × (total rs ≡ 65535 * (k + 1))
full-total rs e = let c = rows_carry 0 rs in (c.0, omega arith)

total-full : (rs : List Row) (k : ℕ) → AllByRecursion OfBytes rs → total rs ≡ 65535 * (k + 1) → sum_rows 0 rs ≡ 65535
total-full rs k t e =
    let c = rows_carry 0 rs in
    let b = rows-below 0 rs (omega arith) t in
    let some : sum_rows 0 rs ≡ 0 → ⊥ = λ z. omega (arith, rows_none 0 rs z) in
    omega arith

pub sum_laws : SumLaws
sum_laws = record {
  commutes = add_commutes;
  associates = add-associates;
  goes_on = fold-append (λ s r. sum_bytes s (shown_of r));
  any_order = λ a x y rs la s t. ap (λ n. sum_rows n rs) (rows_swap a (shown_of x) (shown_of y) la s t);
  fits = rows-below;
  carries = rows_carry;
  full = full-total;
  full_from = total-full;
}
