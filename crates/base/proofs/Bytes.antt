-- Numbers as bytes and bytes as numbers, at every width. Assumes nothing.
use Rattle.std.proofs.Common.{◌≡◌, ℕ, zero, suc, ◌+◌, ◌*◌, ◌/◌, ◌%◌, ◌^◌, ◌<◌, ◌≤◌, List, [], ◌∷◌, ◌++◌, length, take, sym, refl, ap, ◌∙◌, add_assoc, mod-eq_of_lt, mul_assoc, add-mul, zero-add, zero-mul, arith}
use native.Mathlib.Nat.{mod-one, one-le-pow, pow-succ', mul-add-div_right, mul-add-mod_self_right}
use lib.Arith.{digits_div, mod-mul}
use Rattle.std.proofs.lemmas.Int.Digits.{number_lt}
use Rattle.std.proofs.ByRecursion.{All-take}
use Rattle.std.proofs.lemmas.List.{length-take-le, take_at}
use Rattle.std.specs.Int.Digits.{AllBelowBase, number_from_digits, number_from_digits_after}
use Rattle.base.specs.Numbers.{leading, big_endian}

pub length-big_endian : (n v : ℕ) → length (big_endian n v) ≡ n
unfolding big_endian
length-big_endian zero v = refl
length-big_endian (suc n) v = ap suc (length-big_endian n v)

-- A digit more, before the digits so far.
one_more : (a d p r : ℕ) → (a * 256 + d) * p + r ≡ a * (256 * p) + (d * p + r)
one_more a d p r = rw (add-mul, mul_assoc, add_assoc)

-- The bytes of a number write what is left of it at that width.
number-bytes : (n a v : ℕ) → number_from_digits_after 256 a (big_endian n v) ≡ a * 256 ^ n + v % 256 ^ n
unfolding big_endian
number-bytes zero a v = omega (arith, mod-one v)
number-bytes (suc n) a v =
    number-bytes n (a * 256 + v / 256 ^ n % 256) v
    ∙ one_more a (v / 256 ^ n % 256) (256 ^ n) (v % 256 ^ n)
    ∙ rw (pow-succ' 256 n, mod-mul v {m = 256} {c = 256 ^ n} (omega arith) (one-le-pow n 256 (omega arith)))

-- A number that fits its width is in its bytes.
pub leading-big_endian : (n v : ℕ) (r : List ℕ) → v < 256 ^ n → leading n (big_endian n v ++ r) ≡ v
leading-big_endian n v r h =
    ap (number_from_digits 256) (take_at (big_endian n v) r n (length-big_endian n v))
    ∙ number-bytes n 0 v
    ∙ rw (zero-mul, zero-add) (mod-eq_of_lt h)

-- What is above the width does not show.
low-bytes : (n k v : ℕ) → big_endian n (k * 256 ^ n + v) ≡ big_endian n v
unfolding big_endian
low-bytes zero k v = refl
low-bytes (suc n) k v =
    let p : 0 < 256 ^ n = one-le-pow n 256 (omega arith) in
    let e : k * 256 ^ suc n + v ≡ k * 256 * 256 ^ n + v = rw (pow-succ' 256 n, mul_assoc) in
    let digit : (k * 256 * 256 ^ n + v) / 256 ^ n % 256 ≡ v / 256 ^ n % 256 = ap (λ q. q % 256) (mul-add-div_right p (k * 256) v) ∙ mul-add-mod_self_right k 256 (v / 256 ^ n) in
    ap (λ w. w / 256 ^ n % 256 ∷ big_endian n w) e
    ∙ ap (λ d. d ∷ big_endian n (k * 256 * 256 ^ n + v)) digit
    ∙ ap (λ ds. v / 256 ^ n % 256 ∷ ds) (low-bytes n (k * 256) v)

-- Digits after others.
number-after : (a : ℕ) (ds : List ℕ) → number_from_digits_after 256 a ds ≡ a * 256 ^ length ds + number_from_digits 256 ds
number-after a [] = omega arith
number-after a (d ∷ ds) =
    let first : number_from_digits 256 (d ∷ ds) ≡ d * 256 ^ length ds + number_from_digits 256 ds = number-after (0 + d) ds ∙ rw zero-add in
    number-after (a * 256 + d) ds
    ∙ one_more a d (256 ^ length ds) (number_from_digits 256 ds)
    ∙ rw (← pow-succ' 256 (length ds)) (ap (λ w. a * 256 ^ suc (length ds) + w) (sym first))

-- Bytes are the bytes of their number.
bytes-number : (ds : List ℕ) → AllBelowBase 256 ds → big_endian (length ds) (number_from_digits 256 ds) ≡ ds
unfolding big_endian
bytes-number [] u = refl
bytes-number (d ∷ ds) u =
    let first : number_from_digits 256 (d ∷ ds) ≡ d * 256 ^ length ds + number_from_digits 256 ds = number-after (0 + d) ds ∙ rw zero-add in
    let digit : (d * 256 ^ length ds + number_from_digits 256 ds) / 256 ^ length ds % 256 ≡ d = ap (λ q. q % 256) (digits_div d (number_lt 256 ds u.1)) ∙ mod-eq_of_lt u.0 in
    ap (big_endian (suc (length ds))) first
    ∙ ap (λ b. b ∷ big_endian (length ds) (d * 256 ^ length ds + number_from_digits 256 ds)) digit
    ∙ ap (λ bs. d ∷ bs) (low-bytes (length ds) d (number_from_digits 256 ds) ∙ bytes-number ds u.1)

pub big_endian-leading : (n : ℕ) (bs : List ℕ) → n ≤ length bs → AllBelowBase 256 bs → big_endian n (leading n bs) ≡ take n bs
big_endian-leading n bs h u =
    ap (λ k. big_endian k (leading n bs)) (sym (length-take-le n bs h))
    ∙ bytes-number (take n bs) (All-take (λ d. d < 256) n bs u)
