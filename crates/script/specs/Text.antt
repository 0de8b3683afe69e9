-- The text of a script: lines, comments, white space at the ends, words. Assumes nothing.
use Rattle.std.specs.Prelude.{◌≡◌, ℕ, ◌+◌, ◌-◌, Bool, cond, not, ◌&&◌, ◌||◌, List, [], ◌∷◌, length, take, drop, Some, None, Option, ◌==◌, nat_le, position}
use Rattle.std.specs.Borrow.{Bor}
use Rattle.std.specs.List.{prefix_len, suffix_len}
use Rattle.std.specs.Option.{option_map}

-- How many bytes stand before the first byte c: all, where there is none.
abbrev pub until : ℕ → List ℕ → ℕ
until c xs = prefix_len (λ x. not (x == c)) xs

-- The bytes before the first c, and those after it, where it stands.
abbrev pub before : ℕ → List ℕ → List ℕ
before c xs = take (until c xs) xs

abbrev pub after : ℕ → List ℕ → Option (List ℕ)
after c xs = option_map (λ n. drop (n + 1) xs) (position (λ x. x == c) xs)

-- A byte put before the first of some texts, or alone where there is none.
abbrev pub onto : ℕ → List (List ℕ) → List (List ℕ)
onto x [] = (x ∷ []) ∷ []
onto x (t ∷ ts) = (x ∷ t) ∷ ts

-- The lines of a script. Byte 10 ends a line, and the last may lack it.
unfoldable pub lines_of : List ℕ → List (List ℕ)
lines_of [] = []
lines_of (x ∷ xs) = cond (x == 10) ([] ∷ lines_of xs) (onto x (lines_of xs))

-- From a script the first line is taken, and what follows its end is left. An empty script has no line.
abbrev pub GivesLine : List ℕ → Option (Bor (List ℕ)) → List ℕ → Type 0
GivesLine script None rest = (script ≡ []) × (rest ≡ [])
GivesLine script (Some line) rest = (line.now ≡ before 10 script) × (rest ≡ drop (until 10 script + 1) script) × (lines_of script ≡ line.now ∷ lines_of rest)

-- White space: tabs, line ends and the like, and the space.
abbrev pub white : ℕ → Bool
white x = (nat_le 9 x && nat_le x 13) || x == 32

-- A text without the white space at its front, at its end.
abbrev pub trimmed_front : List ℕ → List ℕ
trimmed_front xs = drop (prefix_len white xs) xs

abbrev pub trimmed_end : List ℕ → List ℕ
trimmed_end xs = take (length xs - suffix_len white xs) xs

-- A line without its comment, which `#` begins, and without white space at the ends.
abbrev pub cleaned_text : List ℕ → List ℕ
cleaned_text line = trimmed_end (trimmed_front (before 35 line))

-- The words of a line: one more than it has spaces.
unfoldable pub words_of : List ℕ → List (List ℕ)
words_of [] = [] ∷ []
words_of (x ∷ xs) = cond (x == 32) ([] ∷ words_of xs) (onto x (words_of xs))

-- The words of what is left of a line, where something is.
abbrev pub words_left : Option (List ℕ) → List (List ℕ)
words_left None = []
words_left (Some xs) = words_of xs

-- The first word, as it stands: what a line is called.
abbrev pub first_word : List ℕ → List ℕ
first_word line = before 32 line
