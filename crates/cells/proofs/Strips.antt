-- How a strip counts. Assumes nothing.
use Rattle.std.proofs.Common.{◌≡◌, ℕ, zero, suc, ◌+◌, ◌-◌, ◌*◌, ◌/◌, ◌%◌, ◌^◌, ◌<◌, ◌≤◌, min, Bool, true, cond, ◌&&◌, eqb, ltb, List, [], ◌∷◌, length, get_or, set, replicate, sum_by, sym, refl, ap, ◌∙◌, inl, inr, arith}
use lib.Bits.{bit_and}
use lib.Count.{ones, ones_in, ones-le}
use Rattle.std.proofs.lemmas.List.Sums.{sum_by-cons}
use Rattle.std.proofs.lemmas.Bool.{ltb-true, eqb-true, lt-ltb, le-ltb, cases_lt, cases_eq, and_parts, cond-true, cond-false, cond_both}
use Rattle.std.proofs.lemmas.Bool.Decides.{nat_tests}
use Rattle.cells.specs.Bounds.{strip_bytes, strip_bits}
use Rattle.cells.specs.Strip.{zero_bits, zeros, byte_of, cleared, Legal, stepped, stepped_strip, bit_at, new_strip, three_strip, Stepped, StripLaws}

-- The nine bytes of a strip, by computing.
byte-zeros : (k : ℕ) → k ≤ 8 → zero_bits (byte_of k) ≡ k
unfolding ones ones_in
byte-zeros zero h = refl
byte-zeros (suc zero) h = refl
byte-zeros (suc (suc zero)) h = refl
byte-zeros (suc (suc (suc zero))) h = refl
byte-zeros (suc (suc (suc (suc zero)))) h = refl
byte-zeros (suc (suc (suc (suc (suc zero))))) h = refl
byte-zeros (suc (suc (suc (suc (suc (suc zero)))))) h = refl
byte-zeros (suc (suc (suc (suc (suc (suc (suc zero))))))) h = refl
byte-zeros (suc (suc (suc (suc (suc (suc (suc (suc zero)))))))) h = refl
byte-zeros (suc (suc (suc (suc (suc (suc (suc (suc (suc k))))))))) h = absurd (omega arith)

mask_byte : (k : ℕ) → k < 8 → bit_and (byte_of k) (127 / 2 ^ k) ≡ byte_of (k + 1)
mask_byte zero h = refl
mask_byte (suc zero) h = refl
mask_byte (suc (suc zero)) h = refl
mask_byte (suc (suc (suc zero))) h = refl
mask_byte (suc (suc (suc (suc zero)))) h = refl
mask_byte (suc (suc (suc (suc (suc zero))))) h = refl
mask_byte (suc (suc (suc (suc (suc (suc zero)))))) h = refl
mask_byte (suc (suc (suc (suc (suc (suc (suc zero))))))) h = refl
mask_byte (suc (suc (suc (suc (suc (suc (suc (suc k)))))))) h = absurd (omega arith)

zeros-cleared : (l n : ℕ) → zeros (cleared l n) ≡ min n (8 * l)
unfolding cleared
zeros-cleared zero n = omega arith
zeros-cleared (suc l) n =
    let here : zero_bits (byte_of (min 8 n)) ≡ min 8 n = byte-zeros (min 8 n) (omega arith) in
    let rest : zeros (cleared l (n - 8)) ≡ min (n - 8) (8 * l) = zeros-cleared l (n - 8) in
    omega arith

cleared_at : (l n : ℕ) → n < 8 * l → get_or (cleared l n) (n / 8) 0 ≡ byte_of (n % 8)
unfolding cleared
cleared_at zero n h = absurd (omega arith)
cleared_at (suc l) n h =
    elim (cases_lt n 8) [
      | inl low ↦ (let q : n / 8 ≡ 0 = omega arith in let r : n % 8 ≡ min 8 n = omega arith in rw (q, r))
      | inr high ↦ (let q : n / 8 ≡ suc ((n - 8) / 8) = omega arith in let r : n % 8 ≡ (n - 8) % 8 = omega arith in rw (q, r) (cleared_at l (n - 8) (omega arith)))
    ]

cleared_more : (l n : ℕ) → n < 8 * l → set (cleared l n) (n / 8) (byte_of (n % 8 + 1)) ≡ cleared l (n + 1)
unfolding cleared
cleared_more zero n h = absurd (omega arith)
cleared_more (suc l) n h =
    elim (cases_lt n 8) [
      | inl low ↦ (let q : n / 8 ≡ 0 = omega arith in let r : n % 8 + 1 ≡ min 8 (n + 1) = omega arith in let z : n + 1 - 8 ≡ n - 8 = omega arith in rw (q, r, z))
      | inr high ↦ (let q : n / 8 ≡ suc ((n - 8) / 8) = omega arith in
          let r : n % 8 ≡ (n - 8) % 8 = omega arith in
          let a : min 8 (n + 1) ≡ min 8 n = omega arith in
          let z : n + 1 - 8 ≡ n - 8 + 1 = omega arith in
          rw (q, r, a, z) (ap (λ bs. byte_of (min 8 n) ∷ bs) (cleared_more l (n - 8) (omega arith))))
    ]

-- A strip of 512 bytes with n bits cleared counts n.
counted : (s : List ℕ) (n : ℕ) → n ≤ strip_bits → s ≡ cleared strip_bytes n → Legal s × (zeros s ≡ n)
counted s n h e =
    let z : zeros (cleared strip_bytes n) ≡ n = zeros-cleared strip_bytes n ∙ omega arith in
    let k : zeros s ≡ n = ap zeros e ∙ z in
    (e ∙ ap (cleared strip_bytes) (sym k), k)

cleared-none : (l : ℕ) → replicate l 255 ≡ cleared l 0
unfolding cleared
cleared-none zero = refl
cleared-none (suc l) = ap (λ bs. 255 ∷ bs) (cleared-none l)

pub fresh : Legal new_strip × (zeros new_strip ≡ 0)
fresh = counted new_strip 0 (omega arith) (cleared-none strip_bytes)

-- Three bits cleared are 0x1f in the first byte.
three-cleared : three_strip ≡ cleared strip_bytes 3
unfolding cleared
three-cleared = ap (λ bs. 31 ∷ bs) (cleared-none 511)

pub three : Legal three_strip × (zeros three_strip ≡ 3)
three = counted three_strip 3 (omega arith) three-cleared

length-cleared : (l n : ℕ) → length (cleared l n) ≡ l
unfolding cleared
length-cleared zero n = refl
length-cleared (suc l) n = ap suc (length-cleared l (n - 8))

-- No byte has more than eight zero bits.
zeros_le : (s : List ℕ) → zeros s ≤ 8 * length s
zeros_le [] = omega arith
zeros_le (b ∷ bs) =
    let here : zero_bits b ≤ 8 = ones-le 8 (2 ^ 8 - 1 - b) (omega arith) in
    let rest : zeros bs ≤ 8 * length bs = zeros_le bs in
    omega arith

-- The count is the sum of what the bytes count.
pub sum_zeros : (s : List ℕ) → sum_by zero_bits s ≡ zeros s
sum_zeros [] = refl
sum_zeros (b ∷ bs) = sum_by-cons zero_bits b bs ∙ ap (λ n. zero_bits b + n) (sum_zeros bs)

pub sum_zeros_le : (s : List ℕ) → sum_by zero_bits s ≤ 8 * length s
sum_zeros_le s = rw (sum_zeros s) (zeros_le s)

-- The prefix never passes the strip.
legal_le : (s : List ℕ) → Legal s → zeros s ≤ strip_bits
legal_le s e = let z : zeros s ≡ min (zeros s) 4096 = ap zeros e ∙ zeros-cleared strip_bytes (zeros s) in omega arith

stepped_le : (n : ℕ) → n ≤ strip_bits → stepped strip_bits n ≤ strip_bits
stepped_le n h = cond_both (ltb n strip_bits) (n + 1) n (λ x. x ≤ strip_bits) (λ e. omega (arith, ltb-true n strip_bits e)) (λ e. h)

-- A step gives a legal strip with the count stepped.
pub after_step : (s r : List ℕ) → Legal s → r ≡ stepped_strip s → Legal r × (zeros r ≡ stepped strip_bits (zeros s))
after_step s r e made = counted r (stepped strip_bits (zeros s)) (stepped_le (zeros s) (legal_le s e)) made

stepped-below : (n : ℕ) → n < strip_bits → stepped strip_bits n ≡ n + 1
stepped-below n h = cond-true (ltb n strip_bits) (n + 1) n (lt-ltb n strip_bits h)

stepped-full : (n : ℕ) → strip_bits ≤ n → stepped strip_bits n ≡ n
stepped-full n h = cond-false (ltb n strip_bits) (n + 1) n (le-ltb n strip_bits h)

-- Clearing the next bit of a byte is the step.
pub masked : (s : List ℕ) (n byte : ℕ) → Legal s → n ≡ zeros s → n < strip_bits → byte ≡ bit_and (get_or s (n / 8) 0) (127 / 2 ^ (n % 8)) → set s (n / 8) byte ≡ stepped_strip s
masked s n byte e is h made =
    let room : n < 8 * strip_bytes = omega arith in
    let here = cleared_at strip_bytes n room in
    let mask = mask_byte (n % 8) (omega arith) in
    let more = cleared_more strip_bytes n room in
    let next : stepped strip_bits n ≡ n + 1 = stepped-below n h in
    cc

-- A full strip is its own step.
pub stays : (s : List ℕ) → Legal s → strip_bits ≤ zeros s → s ≡ stepped_strip s
stays s e h = let same : stepped strip_bits (zeros s) ≡ zeros s = stepped-full (zeros s) h in cc

-- What holds at every number below n, by computing.
all_below : ℕ → (ℕ → Bool) → Bool
all_below zero p = true
all_below (suc n) p = p n && all_below n p

below : (n : ℕ) (p : ℕ → Bool) → all_below n p ≡ true → (k : ℕ) → k < n → p k ≡ true
unfolding all_below
below zero p e k h = absurd (omega arith)
below (suc n) p e k h =
    let parts = and_parts (p n) (all_below n p) e in
    elim (cases_eq k n) [ inl same ↦ ap p same ∙ parts.0 | inr other ↦ below n p parts.1 k (omega arith) ]

bit_right : ℕ → ℕ → Bool
bit_right m k = eqb (byte_of m / 2 ^ (7 - k) % 2) (cond (ltb k m) 0 1)

bits-right : all_below 9 (λ m. all_below 8 (bit_right m)) ≡ true
unfolding all_below bit_right
bits-right = refl

bit_byte : (m k : ℕ) → m ≤ 8 → k < 8 → byte_of m / 2 ^ (7 - k) % 2 ≡ cond (ltb k m) 0 1
unfolding bit_right
bit_byte m k hm hk =
    eqb-true (byte_of m / 2 ^ (7 - k) % 2) (cond (ltb k m) 0 1)
    (below 8 (bit_right m) (below 9 (λ j. all_below 8 (bit_right j)) bits-right m (omega arith)) k hk)

same_test : (a b c d : ℕ) → (a < b → c < d) → (c < d → a < b) → ltb a b ≡ ltb c d
same_test a b c d f g =
    elim (cases_lt a b) [
      | inl low ↦ lt-ltb a b low ∙ sym (lt-ltb c d (f low))
      | inr high ↦ elim (cases_lt c d) [ inl low ↦ absurd (omega (arith, g low)) | inr up ↦ le-ltb a b high ∙ sym (le-ltb c d up) ]
    ]

-- The bits of a prefix strip: the first n are cleared, and the others are not.
bit_cleared : (l n k : ℕ) → k < 8 * l → bit_at (cleared l n) k ≡ cond (ltb k n) 0 1
unfolding cleared
bit_cleared zero n k h = absurd (omega arith)
bit_cleared (suc l) n k h =
    elim (cases_lt k 8) [
      | inl low ↦ (let q : k / 8 ≡ 0 = omega arith in
          let r : k % 8 ≡ k = omega arith in
          let t : ltb k (min 8 n) ≡ ltb k n = same_test k (min 8 n) k n (λ a. omega arith) (λ a. omega arith) in
          rw (q, r, ← t) (bit_byte (min 8 n) k (omega arith) low))
      | inr high ↦ (let q : k / 8 ≡ suc ((k - 8) / 8) = omega arith in
          let r : k % 8 ≡ (k - 8) % 8 = omega arith in
          let t : ltb (k - 8) (n - 8) ≡ ltb k n = same_test (k - 8) (n - 8) k n (λ a. omega arith) (λ a. omega arith) in
          rw (q, r, ← t) (bit_cleared l (n - 8) (k - 8) (omega arith)))
    ]

prefix : (s : List ℕ) → Legal s → (k : ℕ) → k < strip_bits → bit_at s k ≡ cond (ltb k (zeros s)) 0 1
prefix s e k h = ap (λ t. bit_at t k) e ∙ bit_cleared strip_bytes (zeros s) k (omega arith)

-- One more in the prefix is one bit more.
one_bit : (n k : ℕ) → ◌≡◌ {A = ℕ} (cond (ltb k (n + 1)) 0 1) (cond (eqb k n) 0 (cond (ltb k n) 0 1))
one_bit n k = grind (arith, nat_tests)

step-laws : (s : List ℕ) → Legal s → zeros s < strip_bits → Stepped s
step-laws s e h =
    let after = after_step s (stepped_strip s) e refl in
    let count : zeros (stepped_strip s) ≡ zeros s + 1 = after.1 ∙ stepped-below (zeros s) h in
    record {
      legal = after.0;
      count = count;
      bits = λ k below-k.
          prefix (stepped_strip s) after.0 k below-k
          ∙ ap (λ n. cond (ltb k n) 0 1) count
          ∙ one_bit (zeros s) k
          ∙ ap (λ b. cond (eqb k (zeros s)) 0 b) (sym (prefix s e k below-k));
    }

pub strip_laws : StripLaws
strip_laws =
    record {
      new = fresh;
      bound = λ s e. let le : zeros s ≤ 8 * length s = zeros_le s in omega arith;
      size = λ s e. ap length e ∙ length-cleared strip_bytes (zeros s);
      prefix = prefix;
      three = three;
      step = step-laws;
      full = λ s e n. sym (stays s e (omega arith));
    }
