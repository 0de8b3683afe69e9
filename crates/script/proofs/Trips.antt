-- The laws of a script's text. Assumes nothing.
use Rattle.std.proofs.Common.{◌≡◌, ℕ, ◌+◌, ◌*◌, ◌/◌, ◌%◌, ◌^◌, ◌<◌, true, false, eqb, ltb, List, [], ◌∷◌, ◌++◌, length, Some, decimal, refl, ap, ◌∙◌, arith}
use Rattle.std.specs.Str.Parse.{AllDigits, digits_value_after}
use Rattle.std.specs.Char.{digit_value}
use Rattle.std.specs.List.{flat_map, AllByRecursion}
use Rattle.std.specs.Option.{option_map}
use Rattle.std.proofs.lemmas.Fmt.{decimal_is_IsNumeral}
use Rattle.std.proofs.lemmas.List.{append_assoc}
use Rattle.std.proofs.lemmas.Bool.{ne_eqb, eq-eqb, lt-ltb, and_right, both_ways}
use Rattle.std.proofs.lemmas.Bool.Decides.{nat_tests}
use Rattle.script.specs.Text.{lines_of, words_of}
use Rattle.script.specs.Words.{digit_in, number_from, is_hex, number_of, number_to, byte_of, bytes_of, bytes_in, hex_digit, hex_text}
use Rattle.script.specs.Commands.{command_of}
use Rattle.script.proofs.Readings.{some_digits, bytes_at}
use Rattle.script.specs.Laws.{Lacks, ScriptLaws, Examples}

line_first : (l rest : List ℕ) → Lacks 10 l → lines_of (l ++ (10 ∷ rest)) ≡ l ∷ lines_of rest
unfolding lines_of
line_first [] rest h = refl
line_first (x ∷ l) rest h = let t : eqb x 10 ≡ false = ne_eqb x 10 h.0 in simp (t, line_first l rest h.1)

lines_are : (ls : List (List ℕ)) → AllByRecursion (Lacks 10) ls → lines_of (flat_map (λ l. l ++ (10 ∷ [])) ls) ≡ ls
unfolding lines_of
lines_are [] h = refl
lines_are (l ∷ ls) h =
    let rest = flat_map (λ l. l ++ (10 ∷ [])) ls in
    ap lines_of (append_assoc l (10 ∷ []) rest) ∙ line_first l rest h.0 ∙ ap (λ x. l ∷ x) (lines_are ls h.1)

last_word : (w : List ℕ) → Lacks 32 w → words_of (w ++ []) ≡ w ∷ []
unfolding words_of
last_word [] h = refl
last_word (x ∷ w) h = let t : eqb x 32 ≡ false = ne_eqb x 32 h.0 in simp (t, last_word w h.1)

word_first : (w rest : List ℕ) → Lacks 32 w → words_of (w ++ (32 ∷ rest)) ≡ w ∷ words_of rest
unfolding words_of
word_first [] rest h = refl
word_first (x ∷ w) rest h = let t : eqb x 32 ≡ false = ne_eqb x 32 h.0 in simp (t, word_first w rest h.1)

words_are : (w : List ℕ) (ws : List (List ℕ)) → Lacks 32 w → AllByRecursion (Lacks 32) ws → words_of (w ++ flat_map (λ x. 32 ∷ x) ws) ≡ w ∷ ws
words_are w [] h hs = last_word w h
words_are w (v ∷ ws) h hs = word_first w (v ++ flat_map (λ x. 32 ∷ x) ws) h ∙ ap (λ x. w ∷ x) (words_are v ws hs.0 hs.1)

digit_back : (d : ℕ) → d < 16 → digit_in 16 (hex_digit d) ≡ Some d
digit_back d l = grind (arith, nat_tests)

byte_back : (b : ℕ) → b < 256 → byte_of (hex_digit (b / 16)) (hex_digit (b % 16)) ≡ Some b
byte_back b l =
    let high : digit_in 16 (hex_digit (b / 16)) ≡ Some (b / 16) = digit_back (b / 16) (omega (arith, l)) in
    let low : digit_in 16 (hex_digit (b % 16)) ≡ Some (b % 16) = digit_back (b % 16) (omega arith) in
    let whole : b / 16 * 16 + b % 16 ≡ b = omega arith in
    simp (high, low) (ap Some whole)

bytes_back : (bs : List ℕ) → AllByRecursion (λ b. b < 256) bs → bytes_of (hex_text bs) ≡ Some bs
unfolding bytes_of
bytes_back [] h = refl
bytes_back (b ∷ bs) h = bytes_at (hex_digit (b / 16)) (hex_digit (b % 16)) b (hex_text bs) (byte_back b h.0) ∙ ap (option_map (λ xs. b ∷ xs)) (bytes_back bs h.1)

hex_length : (bs : List ℕ) → length (hex_text bs) ≡ 2 * length bs
hex_length [] = refl
hex_length (b ∷ bs) = omega (arith, hex_length bs)

row_back : (bs : List ℕ) → AllByRecursion (λ b. b < 256) bs → bytes_in (length bs) (hex_text bs) ≡ Some bs
unfolding bytes_in
row_back bs h = let t : eqb (length (hex_text bs)) (2 * length bs) ≡ true = eq-eqb _ _ (hex_length bs) in simp t (bytes_back bs h)

-- A decimal digit has one value, here and where `{n}` is read.
same_digit : (c : ℕ) → digit_value c < 10 → digit_in 10 c ≡ Some (digit_value c)
same_digit c l = grind (arith, nat_tests)

number_is : (n : ℕ) (ds : List ℕ) → AllDigits 10 ds → number_from 10 n ds ≡ Some (digits_value_after 10 n ds)
unfolding number_from
number_is n [] h = refl
number_is n (c ∷ cs) h = rw (same_digit c h.0) (number_is (n * 10 + digit_value c) cs h.1)

not_hex : (ds : List ℕ) → AllDigits 10 ds → is_hex ds ≡ false
not_hex [] h = refl
not_hex (a ∷ []) h = and_right (eqb a 48) false refl
not_hex (a ∷ (b ∷ ds)) h =
    let no : b ≡ 120 → ⊥ = λ e. absurd (both_ways (ltb (digit_value b) 10) (ap (λ x. ltb (digit_value x) 10) e) (lt-ltb (digit_value b) 10 h.1.0)) in
    and_right (eqb a 48) (eqb b 120) (ne_eqb b 120 no)

number_back : (n : ℕ) → n < 2 ^ 64 → number_of (decimal n) ≡ Some n
number_back n l =
    let reads = decimal_is_IsNumeral n l in
    let t : is_hex (decimal n) ≡ false = not_hex (decimal n) reads.0.1 in
    simp t (some_digits 10 (decimal n) reads.0.0 ∙ number_is 0 (decimal n) reads.0.1 ∙ ap Some reads.1)

pub laws : ScriptLaws
laws = record { lines = lines_are; words = words_are; bytes = row_back; numbers = number_back }

pub examples : Examples
unfolding words_of number_from number_to bytes_of bytes_in command_of
examples = record {
  cleaned = refl;
  part = refl;
  power = refl;
  too_great = refl;
  upper = refl;
  no_digit = refl;
  missing = refl;
  empty_word = refl;
  surplus = refl;
  unknown = refl;
}
