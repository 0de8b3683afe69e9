-- Loops that read digits. Assumes nothing.
use Rattle.std.proofs.Common.{◌≡◌, ℕ, ◌+◌, ◌*◌, ◌<◌, ◌≤◌, Bool, true, false, cond, ◌&&◌, eqb, leb, List, [], ◌∷◌, ◌++◌, length, get_or, take, drop, set, Some, None, Option, Ok, Err, Result, suc, codes, nat_eq, sym, refl, ap, ◌∙◌, le-mul_of_pos_right, arith, length-drop}
use Rattle.std.specs.Cmp.Lexicographic.{pointwise}
use Rattle.std.specs.Bool.{then_some}
use Rattle.std.specs.Result.{OkIff, result_ok}
use Rattle.std.specs.Option.{option_map, option_zip, option_and_then}
use Rattle.std.proofs.lemmas.List.{append-nil, nil_from_length, append_assoc, at_drop_all, drop_more, take_all, take_more_set}
use Rattle.std.proofs.lemmas.Bool.{lt-leb, le-leb, ne_eqb, eq-eqb, eqb-true, eqb-false}
use Rattle.std.proofs.lemmas.Bool.Decides.{nat_tests}
use Rattle.script.specs.Words.{digit_in, number_of, number_to, bits64, number_from, in_base, is_hex, at_most, byte_of, bytes_of, bytes_in}

-- One digit more, a byte that is none, and the end.
digit_more : (base n : ℕ) (ds : List ℕ) (i : ℕ) (o : Option ℕ) → i < length ds → o ≡ digit_in base (get_or ds i 0) → number_from base n (drop i ds) ≡ option_and_then (λ d. number_from base (n * base + d) (drop (i + 1) ds)) o
unfolding number_from
digit_more base n ds i o l e = rw (drop_more ds i 0 l) (simp (← e))

digits_end : (base n : ℕ) (ds : List ℕ) (i : ℕ) → length ds ≤ i → number_from base n (drop i ds) ≡ Some n
unfolding number_from
digits_end base n ds i l = at_drop_all (number_from base n) ds i l

-- A number that is too great stays so, whatever digits follow.
stays : (base n d : ℕ) → 0 < base → n ≤ n * base + d
stays base n d b = omega (arith, le-mul_of_pos_right n b)

too_great : (base most : ℕ) → 0 < base → (n : ℕ) (cs : List ℕ) → most < n → at_most most (number_from base n cs) ≡ None
unfolding number_from
too_great base most b n [] l = let t : leb n most ≡ false = lt-leb n most l in simp t
too_great base most b n (c ∷ cs) l =
    elim (digit_in base c) as (λ o. at_most most (option_and_then (λ d. number_from base (n * base + d) cs) o) ≡ None) [
      | None ↦ refl
      | Some d ↦ let s : n ≤ n * base + d = stays base n d b in too_great base most b (n * base + d) cs (omega arith)
    ]

above_from : (most v : ℕ) → None ≡ at_most most (Some v) → most < v
above_from most v e = grind (arith, nat_tests)

within_from : (most m v : ℕ) → Some m ≡ at_most most (Some v) → (m ≤ most) × (m ≡ v)
within_from most m v e = grind (arith, nat_tests)

-- What is left of the digits makes of the number so far what the digits make of 0.
abbrev pub Reads : (base most n : ℕ) (ds : List ℕ) (i : ℕ) → Type 0
Reads base most n ds i = at_most most (number_from base n (drop i ds)) ≡ at_most most (number_from base 0 ds)

pub some_digits : (base : ℕ) (ds : List ℕ) → 0 < length ds → in_base base ds ≡ number_from base 0 ds
some_digits base [] l = absurd (omega arith)
some_digits base (d ∷ ds) l = refl

pub reads_bad : (base most n : ℕ) (ds : List ℕ) (i : ℕ) → Reads base most n ds i → i < length ds → None ≡ digit_in base (get_or ds i 0) → None ≡ at_most most (in_base base ds)
reads_bad base most n ds i inv l e =
    sym (ap (at_most most) (digit_more base n ds i None l e)) ∙ inv ∙ sym (ap (at_most most) (some_digits base ds (omega arith)))

pub reads_past : (base most n : ℕ) (ds : List ℕ) (i d : ℕ) → Reads base most n ds i → i < length ds → Some d ≡ digit_in base (get_or ds i 0) → 0 < base → None ≡ at_most most (Some (n * base + d)) → None ≡ at_most most (in_base base ds)
reads_past base most n ds i d inv l e b none =
    sym (too_great base most b (n * base + d) (drop (i + 1) ds) (above_from most (n * base + d) none))
    ∙ sym (ap (at_most most) (digit_more base n ds i (Some d) l e)) ∙ inv ∙ sym (ap (at_most most) (some_digits base ds (omega arith)))

pub reads_more : (base most n m : ℕ) (ds : List ℕ) (i d : ℕ) → Reads base most n ds i → i < length ds → Some d ≡ digit_in base (get_or ds i 0) → Some m ≡ at_most most (Some (n * base + d)) → (m ≤ most) × Reads base most m ds (i + 1)
reads_more base most n m ds i d inv l e some =
    let w = within_from most m (n * base + d) some in
    (w.0, ap (λ k. at_most most (number_from base k (drop (i + 1) ds))) w.1 ∙ sym (ap (at_most most) (digit_more base n ds i (Some d) l e)) ∙ inv)

pub reads_end : (base most n : ℕ) (ds : List ℕ) (i : ℕ) → Reads base most n ds i → n ≤ most → 0 < length ds → length ds ≤ i → Some n ≡ at_most most (in_base base ds)
reads_end base most n ds i inv w some l =
    let t : leb n most ≡ true = le-leb n most w in
    let here : Some n ≡ at_most most (Some n) = simp t in
    here ∙ sym (ap (at_most most) (digits_end base n ds i l)) ∙ inv ∙ sym (ap (at_most most) (some_digits base ds some))

-- A number of 64 bits, and what fits fewer.
narrow_none : (most : ℕ) (o : Option ℕ) → most ≤ 18446744073709551615 → None ≡ at_most 18446744073709551615 o → None ≡ at_most most o
narrow_none most None w e = refl
narrow_none most (Some m) w e = let t : leb m most ≡ false = lt-leb m most (omega (arith, above_from _ m e)) in simp t

narrow_some : (n : ℕ) (o : Option ℕ) → Some n ≡ at_most 18446744073709551615 o → o ≡ Some n
narrow_some n None e = absurd (cc)
narrow_some n (Some m) e = ap Some (sym (within_from _ n m e).1)

pub no_number : (most : ℕ) (word : List ℕ) → most ≤ 18446744073709551615 → None ≡ bits64 word → None ≡ number_to most word
unfolding number_to
no_number most word w e = narrow_none most (number_of word) w e

narrow_at : {E : Type 0} (most n : ℕ) (r : Result ℕ E) → OkIff r (n < suc most) n → result_ok r ≡ at_most most (Some n)
narrow_at most n (Ok x) h = let t : leb n most ≡ true = le-leb n most (omega (arith, h.0)) in simp (t, h.1)
narrow_at most n (Err x) h = let t : leb n most ≡ false = lt-leb n most (omega (arith, h)) in simp t

pub narrowed : {E : Type 0} (most n : ℕ) (word : List ℕ) (r : Result ℕ E) → Some n ≡ bits64 word → OkIff r (n < suc most) n → result_ok r ≡ number_to most word
unfolding number_to
narrowed most n word r e h = narrow_at most n r h ∙ ap (at_most most) (sym (narrow_some n (number_of word) e))

-- A word begins with `0x`.
and_true : (b : Bool) → (b && true) ≡ b
and_true true = refl
and_true false = refl

pub begins_hex : (word : List ℕ) → pointwise nat_eq (take 2 word) (codes "0x") ≡ is_hex word
begins_hex [] = refl
begins_hex (a ∷ []) = refl
begins_hex (a ∷ (b ∷ word)) = ap (λ t. eqb a 48 && t) (and_true (eqb b 120))

-- One byte more, and two bytes that are none.
pub bytes_at : (a b x : ℕ) (rest : List ℕ) → byte_of a b ≡ Some x → bytes_of (a ∷ (b ∷ rest)) ≡ option_map (λ bs. x ∷ bs) (bytes_of rest)
unfolding bytes_of
bytes_at a b x rest e = rw e (elim (bytes_of rest) as (λ o. option_map (λ p. p.0 ∷ p.1) (option_zip (Some x) o) ≡ option_map (λ bs. x ∷ bs) o) [ None ↦ refl | Some bs ↦ refl ])

bytes_bad : (a b : ℕ) (rest : List ℕ) → byte_of a b ≡ None → bytes_of (a ∷ (b ∷ rest)) ≡ None
unfolding bytes_of
bytes_bad a b rest e = rw e refl

two_first : (ds : List ℕ) → 2 ≤ length ds → ds ≡ get_or ds 0 0 ∷ (get_or ds 1 0 ∷ drop 2 ds)
two_first [] l = absurd (omega arith)
two_first (a ∷ []) l = absurd (omega arith)
two_first (a ∷ (b ∷ ds)) l = refl

written_more : (xs : List ℕ) (y : ℕ) (o : Option (List ℕ)) → option_map (λ bs. (xs ++ (y ∷ [])) ++ bs) o ≡ option_map (λ bs. xs ++ bs) (option_map (λ bs. y ∷ bs) o)
written_more xs y None = refl
written_more xs y (Some bs) = ap Some (append_assoc xs (y ∷ []) bs)

-- What is written so far, with what the digits left write, makes the bytes of the word.
pub record Fills (word bytes digits : List ℕ) (i : ℕ) : Type 0 where
  pub writes : option_map (λ bs. take i bytes ++ bs) (bytes_of digits) ≡ bytes_of word
  pub left : length digits + 2 * i ≡ length word

pub fills_none : (word bytes : List ℕ) → Fills word bytes word 0
fills_none word bytes = record { writes = elim (bytes_of word) as (λ o. option_map (λ bs. bs) o ≡ o) [ None ↦ refl | Some bs ↦ refl ]; left = omega arith }

pub fills_more : (word bytes digits rest : List ℕ) (i x : ℕ) → Fills word bytes digits i → 2 ≤ length digits → i < length bytes → Some x ≡ byte_of (get_or digits 0 0) (get_or digits 1 0) → rest ≡ drop 2 digits → Fills word (set bytes i x) rest (i + 1)
fills_more word bytes digits rest i x f two at e r =
    let more : bytes_of digits ≡ option_map (λ bs. x ∷ bs) (bytes_of rest) = ap bytes_of (two_first digits two) ∙ bytes_at _ _ x (drop 2 digits) (sym e) ∙ ap (λ ds. option_map (λ bs. x ∷ bs) (bytes_of ds)) (sym r) in
    record {
      writes = ap (λ xs. option_map (λ bs. xs ++ bs) (bytes_of rest)) (take_more_set bytes i x at) ∙ written_more (take i bytes) x (bytes_of rest) ∙ sym (ap (option_map (λ bs. take i bytes ++ bs)) more) ∙ f.writes;
      left = omega (arith, f.left, ap length r, length-drop 2 digits);
    }

-- A word of another length has no bytes, nor has one with two bytes that are none.
other_length : (n : ℕ) (word : List ℕ) → (length word ≡ 2 * n → ⊥) → None ≡ bytes_in n word
unfolding bytes_in
other_length n word other = let t : eqb (length word) (2 * n) ≡ false = ne_eqb _ _ other in simp t

never : (b : Bool) (o : Option (List ℕ)) → o ≡ None → None ≡ cond b o None
never true o e = sym e
never false o e = refl

pub fills_bad : (n : ℕ) (word bytes digits : List ℕ) (i : ℕ) → Fills word bytes digits i → 2 ≤ length digits → None ≡ byte_of (get_or digits 0 0) (get_or digits 1 0) → None ≡ bytes_in n word
unfolding bytes_in
fills_bad n word bytes digits i f two e =
    let none : bytes_of word ≡ None = sym f.writes ∙ ap (option_map (λ bs. take i bytes ++ bs)) (ap bytes_of (two_first digits two) ∙ bytes_bad _ _ (drop 2 digits) (sym e)) in
    never (eqb (length word) (2 * n)) (bytes_of word) none

pub fills_short : (n : ℕ) (word bytes digits : List ℕ) (i : ℕ) → Fills word bytes digits i → length digits < 2 → i < n → None ≡ bytes_in n word
fills_short n word bytes digits i f short at = other_length n word (λ e. absurd (omega (arith, f.left)))

pub fills_end : (n : ℕ) (word bytes digits : List ℕ) (i : ℕ) → Fills word bytes digits i → length bytes ≡ n → i ≡ n → (b : Bool) → b ≡ eqb (length digits) 0 → then_some b bytes ≡ bytes_in n word
unfolding bytes_in bytes_of
fills_end n word bytes digits i f long at true e =
    let none : length digits ≡ 0 = eqb-true (length digits) 0 (sym e) in
    let t : eqb (length word) (2 * n) ≡ true = eq-eqb _ _ (omega (arith, f.left)) in
    let whole : option_map (λ bs. take i bytes ++ bs) (bytes_of digits) ≡ Some bytes = ap (λ ds. option_map (λ bs. take i bytes ++ bs) (bytes_of ds)) (nil_from_length digits none) ∙ ap Some (append-nil (take i bytes) ∙ take_all i bytes (omega arith)) in
    simp (t, ← f.writes, whole)
fills_end n word bytes digits i f long at false e = other_length n word (λ h. absurd (omega (arith, f.left, eqb-false (length digits) 0 (sym e))))
