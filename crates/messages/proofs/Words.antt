-- The fields of a status message and of a closing, taken off one after another. Assumes nothing.
use Rattle.std.proofs.Common.{◌≡◌, ℕ, ◌+◌, ◌≤◌, List, length, take, drop, rules, refl, w32, w64, div-one, ap, sym, ◌∙◌, arith}
use Rattle.std.proofs.lemmas.List.{drop-drop, length-take-le, take_all}
use Rattle.std.specs.Array.{IsWholeChunk}
use Rattle.std.specs.Int.{from_be_bytes, to_be_bytes}
use Rattle.std.specs.Int.Digits.{number_from_digits}
use Rattle.base.specs.Numbers.{leading, big_endian}
use Rattle.messages.specs.declared.status.Status.{Status}
use Rattle.messages.specs.declared.kind.Kind.TheVariants.{Row, Close}
use Rattle.messages.specs.Wire.{row, close, said_by}
use Rattle.messages.specs.Fields.{status_at}

-- The number in the eight or the four bytes at the front.
word_of : (bs : List ℕ) → length bs ≡ 8 → from_be_bytes w64 bs ≡ leading 8 bs
word_of bs h = search rules

half_of : (bs : List ℕ) → length bs ≡ 4 → from_be_bytes w32 bs ≡ leading 4 bs
half_of bs h = search rules

leading_front : (n : ℕ) (bs xs : List ℕ) → bs ≡ take n xs → n ≤ length xs → leading n bs ≡ leading n xs
leading_front n bs xs e h = ap (number_from_digits 256) (take_all n bs (omega (arith, ap length e, length-take-le n xs h)) ∙ e)

pub word_in_front : (bs xs : List ℕ) → bs ≡ take 8 xs → 8 ≤ length xs → from_be_bytes w64 bs ≡ leading 8 xs
word_in_front bs xs e h = word_of bs (ap length e ∙ length-take-le 8 xs h) ∙ leading_front 8 bs xs e h

half_in_front : (bs xs : List ℕ) → bs ≡ take 4 xs → 4 ≤ length xs → from_be_bytes w32 bs ≡ leading 4 xs
half_in_front bs xs e h = half_of bs (ap length e ∙ length-take-le 4 xs h) ∙ leading_front 4 bs xs e h

pub word_bytes : (v : ℕ) → to_be_bytes w64 v ≡ big_endian 8 v
unfolding big_endian
word_bytes v = rw (div-one v) refl

pub half_bytes : (v : ℕ) → to_be_bytes w32 v ≡ big_endian 4 v
unfolding big_endian
half_bytes v = rw (div-one v) refl

-- What is left behind the first n bytes, and the number in eight of them.
abbrev pub Split : ℕ → List ℕ → List ℕ → List ℕ → Type 0
Split n xs front behind = (front ≡ take n xs) × (behind ≡ drop n xs) × (length behind + n ≡ length xs)

abbrev pub Word : List ℕ → ℕ → List ℕ → Type 0
Word xs v behind = (v ≡ leading 8 xs) × (behind ≡ drop 8 xs) × (length behind + 8 ≡ length xs)

-- All that is left.
abbrev pub Rest : ℕ → List ℕ → List ℕ → Type 0
Rest n xs all = (length xs ≡ n) × (all ≡ xs)

abbrev fields : ℕ → List ℕ → ℕ → ℕ → List ℕ → Status
fields v i c o t = record { version = v; identity = i; count = c; other = o; tag = t }

pub status_taken : (xs : List ℕ) (v : ℕ) (r1 i r2 c r3 : List ℕ) (o : ℕ) (r4 t : List ℕ) → Word xs v r1 → Split 12 r1 i r2 → Split 4 r2 c r3 → Word r3 o r4 → Rest 8 r4 t →
    (length xs ≡ 40) × (fields v i (from_be_bytes w32 c) o t ≡ status_at xs)
status_taken xs v r1 i r2 c r3 o r4 t a b d e f =
    let at2 : r2 ≡ drop 20 xs = b.1 ∙ ap (drop 12) a.1 ∙ drop-drop 12 8 xs in
    let at3 : r3 ≡ drop 24 xs = d.1 ∙ ap (drop 4) at2 ∙ drop-drop 4 20 xs in
    let at4 : r4 ≡ drop 32 xs = e.1 ∙ ap (drop 8) at3 ∙ drop-drop 8 24 xs in
    let identity : i ≡ take 12 (drop 8 xs) = b.0 ∙ ap (take 12) a.1 in
    let count : from_be_bytes w32 c ≡ leading 4 (drop 20 xs) = half_in_front c r2 d.0 (omega arith) ∙ ap (leading 4) at2 in
    let other : o ≡ leading 8 (drop 24 xs) = e.0 ∙ ap (leading 8) at3 in
    let tag : t ≡ take 8 (drop 32 xs) = f.1 ∙ sym (take_all 8 r4 (omega arith)) ∙ ap (take 8) at4 in
    (omega arith, cc)

-- A row is all that is left.
pub row_taken : (xs r : List ℕ) → IsWholeChunk xs r 64 → (length xs + 1 ≡ 65) × (row r ≡ said_by Row xs)
row_taken xs r f = (omega (arith, f.long), ap row (f.same ∙ sym (take_all 64 xs (omega (arith, f.long)))))

-- The tag of a closing is all that is left behind the version.
pub close_taken : (xs : List ℕ) (v : ℕ) (r t : List ℕ) → Word xs v r → Rest 8 r t → (length xs + 1 ≡ 17) × (close v t ≡ said_by Close xs)
close_taken xs v r t a e =
    let tag : t ≡ take 8 (drop 8 xs) = e.1 ∙ sym (take_all 8 r (omega arith)) ∙ ap (take 8) a.1 in
    (omega arith, cc)
