-- What a script's first line and a line's first word are, with what follows. Assumes nothing.
use Rattle.std.proofs.Common.{Bor, ltb, cond, Some, None, Option, sym, ap, ◌∙◌, ◌≡◌, ℕ, ◌+◌, ◌<◌, Bool, true, false, eqb, List, [], ◌∷◌, length, drop, refl, add-one, one-add, arith}
use Rattle.script.specs.Text.{until, before, after, lines_of, words_of, words_left, GivesLine}
use Rattle.std.specs.Option.{option_map, UnwrapsOrElse, unwrap_or}
use Rattle.std.proofs.lemmas.List.{drop_more, drop_all}
use Rattle.std.proofs.lemmas.Bool.{ltb-true, ltb-false}

-- The words of what follows a word: a space begins it, unless it is empty.
abbrev from_space : List ℕ → List (List ℕ)
from_space [] = []
from_space (x ∷ xs) = words_of xs

words_at : (x : ℕ) (xs : List ℕ) → words_of xs ≡ before 32 xs ∷ from_space (drop (until 32 xs) xs) → (b : Bool) → eqb x 32 ≡ b → words_of (x ∷ xs) ≡ before 32 (x ∷ xs) ∷ from_space (drop (until 32 (x ∷ xs)) (x ∷ xs))
unfolding words_of
words_at x xs ih true e = simp e
words_at x xs ih false e = simp (e, ih, one-add)

words_split : (xs : List ℕ) → words_of xs ≡ before 32 xs ∷ from_space (drop (until 32 xs) xs)
unfolding words_of
words_split [] = refl
words_split (x ∷ xs) = words_at x xs (words_split xs) (eqb x 32) refl

-- What follows a place, where it is one of the text.
abbrev behind : List ℕ → ℕ → Bool → Option (List ℕ)
behind xs n b = option_map (λ k. drop (k + 1) xs) (cond b (Some n) None)

words_behind : (xs : List ℕ) (n : ℕ) (b : Bool) → ltb n (length xs) ≡ b → from_space (drop n xs) ≡ words_left (behind xs n b)
words_behind xs n true e = ap from_space (drop_more xs n 0 (ltb-true n (length xs) e))
words_behind xs n false e = ap from_space (drop_all n xs (ltb-false n (length xs) e))

pub word_found : (xs word : List ℕ) (rest : Option (List ℕ)) → word ≡ before 32 xs → rest ≡ after 32 xs → words_of xs ≡ word ∷ words_left rest
word_found xs word rest e a = simp (e, a) (words_split xs ∙ ap (λ ws. before 32 xs ∷ ws) (words_behind xs (until 32 xs) (ltb (until 32 xs) (length xs)) refl))

abbrev Split : List ℕ → Type 0
Split xs = lines_of xs ≡ before 10 xs ∷ lines_of (drop (until 10 xs + 1) xs)

lines_later : (x : ℕ) (xs : List ℕ) → Split xs → eqb x 10 ≡ false → Split (x ∷ xs)
unfolding lines_of
lines_later x xs ih e = simp (e, ih, add-one, one-add)

lines_at : (x : ℕ) (xs : List ℕ) → (0 < length xs → Split xs) → (b : Bool) → eqb x 10 ≡ b → Split (x ∷ xs)
unfolding lines_of
lines_at x xs ih true e = simp e
lines_at x [] ih false e = simp e
lines_at x (y ∷ ys) ih false e = lines_later x (y ∷ ys) (ih (omega arith)) e

lines_split : (xs : List ℕ) → 0 < length xs → Split xs
lines_split [] l = absurd (omega arith)
lines_split (x ∷ xs) l = lines_at x xs (lines_split xs) (eqb x 10) refl

rest_behind : (xs : List ℕ) (n : ℕ) (b : Bool) → ltb n (length xs) ≡ b → (o : Option (Bor (List ℕ))) (rest : Bor (List ℕ)) → option_map (λ x. x.now) o ≡ behind xs n b → UnwrapsOrElse o (λ x. x.now ≡ []) rest → rest.now ≡ drop (n + 1) xs
rest_behind xs n true e None rest a u = absurd (cc)
rest_behind xs n true e (Some r) rest a u = ap (λ x. x.now) u ∙ ap (λ o. unwrap_or o []) a
rest_behind xs n false e None rest a u = u ∙ sym (drop_all (n + 1) xs (omega (arith, ltb-false n (length xs) e)))
rest_behind xs n false e (Some r) rest a u = absurd (cc)

pub line_found : (xs : List ℕ) (line : Bor (List ℕ)) (o : Option (Bor (List ℕ))) (rest : Bor (List ℕ)) → 0 < length xs → line.now ≡ before 10 xs → option_map (λ x. x.now) o ≡ after 10 xs → UnwrapsOrElse o (λ x. x.now ≡ []) rest → GivesLine xs (Some line) rest.now
line_found xs line o rest some e a u =
    let left : rest.now ≡ drop (until 10 xs + 1) xs = rest_behind xs (until 10 xs) (ltb (until 10 xs) (length xs)) refl o rest a u in
    (e, left, simp (left, e) (lines_split xs some))
