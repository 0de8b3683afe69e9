-- How a text is filled up to a plate, and found again. Assumes nothing.
use Rattle.std.proofs.Common.{◌≡◌, ℕ, zero, suc, ◌-◌, ◌<◌, ◌≤◌, Bool, true, false, cond, not, ◌&&◌, eqb, ltb, leb, List, [], ◌∷◌, ◌++◌, length, get_or, take, drop, replicate, Ok, Err, sym, refl, ap, ◌∙◌, subst, arith, length-append}
use lib.ListN.{length-replicate}
use Rattle.std.proofs.lemmas.List.{length-take-le, drop-replicate}
use Rattle.std.proofs.lemmas.List.Folds.{list_all-append}
use Rattle.std.proofs.lemmas.Bool.{and_left, false≢true, and_parts, and_from, and_right, not-true, not_from_false, eqb-true, eq-eqb, ltb-true, lt-ltb, leb-true, le-leb, cond-true, cond-false}
use Rattle.base.specs.declared.Case.TheVariants.{BadShape}
use Rattle.base.specs.declared.Fault.{Fault}
use Rattle.base.specs.declared.Layer.TheVariants.{Common}
use Rattle.base.specs.Faults.{fault}
use Rattle.identity.specs.Plates.{plate_bytes, space, is_printable, all_printable, all_spaces, last_byte, fits_plate, is_plate_text, padded, plate_of, is_plate, trimmed, PlateLaws}

-- A text that has a plate, part by part.
record Admitted (t : List ℕ) : Type 0 where
  some : 0 < length t
  short : length t ≤ plate_bytes
  ends : eqb (last_byte t) space ≡ false
  good : all_printable t ≡ true

admitted : (t : List ℕ) → is_plate_text t ≡ true → Admitted t
unfolding is_plate_text
admitted t e =
    let a = and_parts (fits_plate t) (all_printable t) e in
    let b = and_parts (ltb 0 (length t) && leb (length t) plate_bytes) (not (eqb (last_byte t) space)) a.0 in
    let c = and_parts (ltb 0 (length t)) (leb (length t) plate_bytes) b.0 in
    record {
      some = ltb-true 0 (length t) c.0;
      short = leb-true (length t) plate_bytes c.1;
      ends = not-true (eqb (last_byte t) space) b.1;
      good = a.1;
    }

admits : (t : List ℕ) → Admitted t → is_plate_text t ≡ true
unfolding is_plate_text
admits t a =
    and_from (fits_plate t) (all_printable t)
    (and_from (ltb 0 (length t) && leb (length t) plate_bytes) (not (eqb (last_byte t) space))
    (and_from (ltb 0 (length t)) (leb (length t) plate_bytes) (lt-ltb 0 (length t) a.some) (le-leb (length t) plate_bytes a.short))
    (not_from_false (eqb (last_byte t) space) a.ends))
    a.good

pub short : (t : List ℕ) → is_plate_text t ≡ true → length t ≤ plate_bytes
short t e = (admitted t e).short

-- One byte more before a text leaves its last.
last_more : (b c : ℕ) (bs : List ℕ) → last_byte (b ∷ c ∷ bs) ≡ last_byte (c ∷ bs)
last_more b c bs =
    let e : suc (suc (length bs)) - 1 ≡ suc (length bs) = omega arith in
    let f : suc (length bs) - 1 ≡ length bs = omega arith in
    ap (λ (i : ℕ). get_or (b ∷ c ∷ bs) i 0) e ∙ sym (ap (λ (i : ℕ). get_or (c ∷ bs) i 0) f)

-- What is filled up is all spaces, and a plate may have it.
spaces_all : (n : ℕ) → all_spaces (replicate n space) ≡ true
spaces_all zero = refl
spaces_all (suc n) = spaces_all n

spaces_good : (n : ℕ) → all_printable (replicate n space) ≡ true
spaces_good zero = refl
spaces_good (suc n) = spaces_good n

spaces_trimmed : (n : ℕ) → trimmed (replicate n space) ≡ []
spaces_trimmed zero = refl
spaces_trimmed (suc n) = cond-true (all_spaces (replicate n space)) [] (space ∷ trimmed (replicate n space)) (spaces_all n)

good-append : (t r : List ℕ) → all_printable t ≡ true → all_printable r ≡ true → all_printable (t ++ r) ≡ true
good-append t r e f = list_all-append is_printable t r ∙ and_from (all_printable t) (all_printable r) e f

-- A text that does not end in a space is not all spaces, whatever follows it.
not_spaces : (t r : List ℕ) → 0 < length t → eqb (last_byte t) space ≡ false → all_spaces (t ++ r) ≡ false
not_spaces [] r h e = absurd (omega arith)
not_spaces (b ∷ []) r h e = and_left (eqb b space) (all_spaces r) e
not_spaces (b ∷ c ∷ t) r h e =
    and_right (eqb b space) (all_spaces ((c ∷ t) ++ r)) (not_spaces (c ∷ t) r (omega arith) (ap (λ (x : ℕ). eqb x space) (sym (last_more b c t)) ∙ e))

-- The filling is told from the text.
trimmed-append : (t : List ℕ) (n : ℕ) → 0 < length t → eqb (last_byte t) space ≡ false → trimmed (t ++ replicate n space) ≡ t
trimmed-append [] n h e = absurd (omega arith)
trimmed-append (b ∷ []) n h e =
    cond-false (eqb b space && all_spaces (replicate n space)) [] (b ∷ trimmed (replicate n space)) (and_left (eqb b space) (all_spaces (replicate n space)) e)
    ∙ ap (λ (bs : List ℕ). b ∷ bs) (spaces_trimmed n)
trimmed-append (b ∷ c ∷ t) n h e =
    let f : eqb (last_byte (c ∷ t)) space ≡ false = ap (λ (x : ℕ). eqb x space) (sym (last_more b c t)) ∙ e in
    let r = replicate n space in
    cond-false (eqb b space && all_spaces ((c ∷ t) ++ r)) [] (b ∷ trimmed ((c ∷ t) ++ r)) (and_right (eqb b space) (all_spaces ((c ∷ t) ++ r)) (not_spaces (c ∷ t) r (omega arith) f))
    ∙ ap (λ (bs : List ℕ). b ∷ bs) (trimmed-append (c ∷ t) n (omega arith) f)

pub padded_shape : (t : List ℕ) → is_plate_text t ≡ true → is_plate (padded t) ≡ true
padded_shape t e =
    let a = admitted t e in
    let r = replicate (plate_bytes - length t) space in
    let size : length (t ++ r) ≡ plate_bytes = simp (length-append, length-replicate) (let s : length t ≤ plate_bytes = a.short in omega arith) in
    and_from (eqb (length (t ++ r)) plate_bytes && all_printable (t ++ r)) (not (all_spaces (t ++ r)))
    (and_from (eqb (length (t ++ r)) plate_bytes) (all_printable (t ++ r)) (eq-eqb (length (t ++ r)) plate_bytes size) (good-append t r a.good (spaces_good (plate_bytes - length t))))
    (not_from_false (all_spaces (t ++ r)) (not_spaces t r a.some a.ends))

-- Only a text that has a plate becomes one.
only : (x : Bool) (p bs : List ℕ) (f : Fault) → cond x (Ok p) (Err f) ≡ Ok bs → (x ≡ true) × (p ≡ bs)
only true p bs f e = (refl, cc)
only false p bs f e = absurd (cc)

comes : (t bs : List ℕ) → plate_of t ≡ Ok bs → (is_plate_text t ≡ true) × (padded t ≡ bs)
comes t bs e = only (is_plate_text t) (padded t) bs (fault BadShape Common) e

shape : (t bs : List ℕ) → plate_of t ≡ Ok bs → is_plate bs ≡ true
shape t bs e = let p = comes t bs e in subst (λ (x : List ℕ). is_plate x ≡ true) p.1 (padded_shape t p.0)

text : (t bs : List ℕ) → plate_of t ≡ Ok bs → trimmed bs ≡ t
text t bs e =
    let p = comes t bs e in
    let a = admitted t p.0 in
    ap trimmed (sym p.1) ∙ trimmed-append t (plate_bytes - length t) a.some a.ends

-- Spaces with a text written over their front.
pub front_long : (t : List ℕ) → length t ≤ plate_bytes → length (take (length t) (replicate plate_bytes space)) ≡ length t
front_long t e = length-take-le (length t) (replicate plate_bytes space) e

pub written_over : (t bs : List ℕ) → bs ≡ t → bs ++ drop (length t) (replicate plate_bytes space) ≡ padded t
written_over t bs e = ap (λ (p : List ℕ). p ++ drop (length t) (replicate plate_bytes space)) e ∙ ap (λ (r : List ℕ). t ++ r) (drop-replicate (length t) plate_bytes space)

-- A text that bytes are, but for spaces at their end.
record Found (bs t : List ℕ) : Type 0 where
  some : 0 < length t
  short : length t ≤ length bs
  ends : eqb (last_byte t) space ≡ false
  good : all_printable t ≡ true
  whole : t ++ replicate (length bs - length t) space ≡ bs

spaces_are : (bs : List ℕ) → all_spaces bs ≡ true → replicate (length bs) space ≡ bs
spaces_are [] e = refl
spaces_are (b ∷ bs) e =
    let p = and_parts (eqb b space) (all_spaces bs) e in
    ap (λ (x : List ℕ). space ∷ x) (spaces_are bs p.1) ∙ ap (λ (x : ℕ). x ∷ bs) (sym (eqb-true b space p.0))

spaces_none : (bs : List ℕ) → all_spaces bs ≡ true → trimmed bs ≡ []
spaces_none [] e = refl
spaces_none (b ∷ bs) e = cond-true (eqb b space && all_spaces bs) [] (b ∷ trimmed bs) e

last-before : (b : ℕ) (t : List ℕ) → 0 < length t → last_byte (b ∷ t) ≡ last_byte t
last-before b [] h = absurd (omega arith)
last-before b (c ∷ t) h = last_more b c t

not_here : (x y : Bool) → (x && y) ≡ false → y ≡ true → x ≡ false
not_here true y e f = sym f ∙ e
not_here false y e f = refl

kept : (b : ℕ) (bs : List ℕ) → all_spaces (b ∷ bs) ≡ false → trimmed (b ∷ bs) ≡ b ∷ trimmed bs
kept b bs e = cond-false (eqb b space && all_spaces bs) [] (b ∷ trimmed bs) e

-- The last byte that is no space, and the bytes before it.
found-last : (b : ℕ) (bs : List ℕ) → is_printable b ≡ true → eqb b space ≡ false → all_spaces bs ≡ true → Found (b ∷ bs) (b ∷ [])
found-last b bs g n e =
    let left : suc (length bs) - 1 ≡ length bs = omega arith in
    record {
      some = omega arith;
      short = omega arith;
      ends = n;
      good = and_from (is_printable b) true g refl;
      whole = ap (λ (x : List ℕ). b ∷ x) (ap (λ (k : ℕ). replicate k space) left ∙ spaces_are bs e);
    }

found-more : (b : ℕ) (bs t : List ℕ) → is_printable b ≡ true → Found bs t → Found (b ∷ bs) (b ∷ t)
found-more b bs t g f =
    let left : suc (length bs) - suc (length t) ≡ length bs - length t = omega arith in
    let least : 0 < length t = f.some in
    let most : length t ≤ length bs = f.short in
    record {
      some = omega arith;
      short = omega arith;
      ends = ap (λ (x : ℕ). eqb x space) (last-before b t least) ∙ f.ends;
      good = and_from (is_printable b) (all_printable t) g f.good;
      whole = ap (λ (x : List ℕ). b ∷ x) (ap (λ (k : ℕ). t ++ replicate k space) left ∙ f.whole);
    }

found-by : (x : Bool) (b : ℕ) (bs : List ℕ) → all_spaces bs ≡ x → is_printable b ≡ true → all_spaces (b ∷ bs) ≡ false → (all_spaces bs ≡ false → Found bs (trimmed bs)) → Found (b ∷ bs) (b ∷ trimmed bs)
found-by true b bs s g e rest =
    subst (Found (b ∷ bs)) (ap (λ (x : List ℕ). b ∷ x) (sym (spaces_none bs s))) (found-last b bs g (not_here (eqb b space) (all_spaces bs) e s) s)
found-by false b bs s g e rest = found-more b bs (trimmed bs) g (rest s)

found : (bs : List ℕ) → all_printable bs ≡ true → all_spaces bs ≡ false → Found bs (trimmed bs)
found [] g e = absurd (false≢true (sym e))
found (b ∷ bs) g e =
    let p = and_parts (is_printable b) (all_printable bs) g in
    subst (Found (b ∷ bs)) (sym (kept b bs e)) (found-by (all_spaces bs) b bs refl p.0 e (found bs p.1))

some-text : (bs : List ℕ) → is_plate bs ≡ true → plate_of (trimmed bs) ≡ Ok bs
some-text bs e =
    let a = and_parts (eqb (length bs) plate_bytes && all_printable bs) (not (all_spaces bs)) e in
    let b = and_parts (eqb (length bs) plate_bytes) (all_printable bs) a.0 in
    let size : length bs ≡ plate_bytes = eqb-true (length bs) plate_bytes b.0 in
    let t = trimmed bs in
    let f = found bs b.1 (not-true (all_spaces bs) a.1) in
    let ok = admits t (record { some = f.some; short = subst (λ (n : ℕ). length t ≤ n) size f.short; ends = f.ends; good = f.good }) in
    cond-true (is_plate_text t) (Ok (padded t)) (Err (fault BadShape Common)) ok
    ∙ ap Ok (ap (λ (n : ℕ). t ++ replicate (n - length t) space) (sym size) ∙ f.whole)

pub plate_laws : PlateLaws
plate_laws = record { shape = shape; text = text; one-text = λ s t bs e f. sym (text s bs e) ∙ text t bs f; some-text = some-text }
