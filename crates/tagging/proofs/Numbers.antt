-- The numbers that bytes write, the lowest first. Assumes nothing.
use Rattle.std.proofs.Common.{◌≡◌, ℕ, zero, suc, ◌+◌, ◌-◌, ◌*◌, ◌%◌, ◌^◌, ◌<◌, ◌≤◌, List, [], ◌∷◌, ◌++◌, length, get_or, drop, replicate, sym, refl, ap, ◌∙◌, mod-eq_of_lt, mul_assoc, mul_comm, arith, pow-add}
use native.Mathlib.Nat.{pow-succ', pow-le-pow_right}
use Rattle.std.specs.Prelude.{bit_or, fold, reverse}
use Rattle.std.specs.Int.Bits.{or_shifted, or_shifted_r}
use Rattle.std.proofs.lemmas.List.{reverse-append}
use Rattle.std.proofs.lemmas.List.Sums.{fold-append}
use Rattle.tagging.specs.Sip.{filling}
use Rattle.std.proofs.lemmas.List.{drop_more, drop_all}
use Rattle.tagging.specs.Words.{low_first}

-- One byte more, before those that are read.
low-more : (bs : List ℕ) (i : ℕ) → i < length bs → low_first (drop i bs) ≡ get_or bs i 0 + 256 * low_first (drop (i + 1) bs)
unfolding low_first
low-more bs i h = ap low_first (drop_more bs i 0 h)

low-none : (bs : List ℕ) (i : ℕ) → length bs ≤ i → low_first (drop i bs) ≡ 0
unfolding low_first
low-none bs i h = ap low_first (drop_all i bs h)

low-append : (xs ys : List ℕ) → low_first (xs ++ ys) ≡ low_first xs + 256 ^ length xs * low_first ys
unfolding low_first
low-append [] ys = omega arith
low-append (x ∷ xs) ys =
    let more : 256 ^ suc (length xs) * low_first ys ≡ 256 * (256 ^ length xs * low_first ys) =
    ap (λ (p : ℕ). p * low_first ys) (pow-succ' 256 (length xs)) ∙ mul_assoc 256 (256 ^ length xs) (low_first ys) in
    let rest = low-append xs ys in omega arith

low_zeros : (k s : ℕ) → low_first (replicate k 0 ++ (s ∷ [])) ≡ 256 ^ k * s
unfolding low_first
low_zeros zero s = omega arith
low_zeros (suc k) s =
    let more : 256 ^ suc k * s ≡ 256 * (256 ^ k * s) = ap (λ (p : ℕ). p * s) (pow-succ' 256 k) ∙ mul_assoc 256 (256 ^ k) s in
    let rest = low_zeros k s in omega arith

-- How great the number of some bytes can be.
low_bound : (bs : List ℕ) → ((i : ℕ) → get_or bs i 0 < 256) → low_first bs < 256 ^ length bs
unfolding low_first
low_bound [] h = omega arith
low_bound (b ∷ bs) h =
    let rest = low_bound bs (λ i. h (suc i)) in
    let first : b < 256 = h 0 in
    let more = pow-succ' 256 (length bs) in omega arith

-- The last word of a text: the length stands in its highest byte.
pub low-filled : (rest : List ℕ) (size : ℕ) → ((i : ℕ) → get_or rest i 0 < 256) → length rest < 8
    → bit_or (low_first rest) (size * 2 ^ 56 % 2 ^ 64) ≡ low_first (rest ++ filling size (length rest))
low-filled rest size b h =
    let k = low_bound rest b in
    let r : ℕ = length rest in
    let seven : r + (7 - r) ≡ 7 = omega arith in
    let whole : 256 ^ r * 256 ^ (7 - r) ≡ 2 ^ 56 = sym (pow-add 256 r (7 - r)) ∙ ap (λ (p : ℕ). 256 ^ p) seven in
    let few : r ≤ 7 = omega arith in
    let below : 256 ^ r ≤ 256 ^ 7 = pow-le-pow_right {n = 256} (omega arith) few in
    let cut : size * 2 ^ 56 % 2 ^ 64 ≡ size % 256 * 2 ^ 56 = omega arith in
    let top : 256 ^ r * (256 ^ (7 - r) * (size % 256)) ≡ size % 256 * 2 ^ 56 =
    sym (mul_assoc (256 ^ r) (256 ^ (7 - r)) (size % 256)) ∙ ap (λ (p : ℕ). p * (size % 256)) whole ∙ mul_comm (2 ^ 56) (size % 256) in
    let fill : low_first (filling size r) ≡ 256 ^ (7 - r) * (size % 256) = low_zeros (7 - r) (size % 256) in
    ap (bit_or (low_first rest)) cut ∙ or_shifted_r (size % 256) 56 (low_first rest) (omega arith)
    ∙ omega (arith, low-append rest (filling size r), ap (λ (p : ℕ). 256 ^ r * p) fill ∙ top)

-- The number byte by byte, from the highest.
pub number-is : (bs : List ℕ) → ((i : ℕ) → get_or bs i 0 < 256) → length bs < 8 → fold (λ n byte. bit_or (n * 2 ^ 8 % 2 ^ 64) byte) 0 (reverse bs) ≡ low_first bs
unfolding low_first
number-is [] h l = refl
number-is (b ∷ bs) h l =
    let few : length bs ≤ 6 = omega arith in
    let below : 256 ^ length bs ≤ 256 ^ 6 = pow-le-pow_right {n = 256} (omega arith) few in
    let bound = low_bound bs (λ i. h (suc i)) in
    let byte : b < 256 = h 0 in
    ap (fold _ 0) (reverse-append (b ∷ []) bs) ∙ fold-append _ 0 (reverse bs) (b ∷ [])
    ∙ ap (λ n. bit_or (n * 2 ^ 8 % 2 ^ 64) b) (number-is bs (λ i. h (suc i)) (omega arith))
    ∙ ap (λ n. bit_or n b) (mod-eq_of_lt (omega arith)) ∙ or_shifted (low_first bs) 8 b byte ∙ omega arith

-- A word, as the library reads it.
pub low_eight : (bs : List ℕ) → length bs ≡ 8
    → get_or bs 0 0 + get_or bs 1 0 * 256 + get_or bs 2 0 * 65536 + get_or bs 3 0 * 16777216 + get_or bs 4 0 * 4294967296 + get_or bs 5 0 * 1099511627776 + get_or bs 6 0 * 281474976710656 + get_or bs 7 0 * 72057594037927936
    ≡ low_first bs
low_eight bs l =
    let d = low-none bs 8 (omega arith) in
    let e7 = low-more bs 7 (omega arith) in
    let e6 = low-more bs 6 (omega arith) in
    let e5 = low-more bs 5 (omega arith) in
    let e4 = low-more bs 4 (omega arith) in
    let e3 = low-more bs 3 (omega arith) in
    let e2 = low-more bs 2 (omega arith) in
    let e1 = low-more bs 1 (omega arith) in
    let e0 = low-more bs 0 (omega arith) in
    omega arith
