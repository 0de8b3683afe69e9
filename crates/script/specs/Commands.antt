-- The commands of a script: each by its name and the words after it. Assumes nothing.
use Rattle.std.specs.Prelude.{ℕ, cond, List, [], ◌∷◌, Some, None, codes, Option}
use Rattle.std.specs.Option.{option_map, option_zip, option_and_then}
use Rattle.std.specs.Str.{bytes_eq}
use Rattle.script.specs.declared.commands.Style.{Style}
use Rattle.script.specs.declared.commands.Style.TheVariants.{Rewriting, Flash}
use Rattle.script.specs.declared.commands.Command.{Command}
use Rattle.script.specs.declared.commands.Command.TheVariants.{Part, Window, Power, Off, Write, Blank, Raise, Read, Count, Rows, Load}
use Rattle.script.specs.Text.{words_of}
use Rattle.script.specs.Words.{bits8, bits16, bits32, row_bytes}

-- The make that a word names.
abbrev pub style_of : List ℕ → Option Style
style_of word = cond (bytes_eq word (codes "rewriting")) (Some Rewriting) (cond (bytes_eq word (codes "flash")) (Some Flash) None)

-- The words after a command's name, where there is none, one, two.
abbrev pub no_word : List (List ℕ) → Option (Unit {0})
no_word [] = Some tt
no_word (w ∷ ws) = None

abbrev pub one_word : List (List ℕ) → Option (List ℕ)
one_word [] = None
one_word (a ∷ []) = Some a
one_word (a ∷ (b ∷ ws)) = None

abbrev pub two_words : List (List ℕ) → Option (List ℕ × List ℕ)
two_words [] = None
two_words (a ∷ ws) = option_map (λ b. (a, b)) (one_word ws)

-- What the only word, the only two words say.
abbrev pub one_said : {X : Type 0} → (List ℕ → Option X) → List (List ℕ) → Option X
one_said f ws = option_and_then f (one_word ws)

abbrev pub two_said : {X Y : Type 0} → (List ℕ → Option X) → (List ℕ → Option Y) → List (List ℕ) → Option (X × Y)
two_said f g ws = option_and_then (λ p. option_zip (f p.0) (g p.1)) (two_words ws)

-- A command that takes no word, one, two.
abbrev pub alone : Command → List (List ℕ) → Option Command
alone c ws = option_map (λ _. c) (no_word ws)

abbrev pub with_one : {X : Type 0} → (X → Command) → (List ℕ → Option X) → List (List ℕ) → Option Command
with_one c f ws = option_map c (one_said f ws)

abbrev pub with_two : {X Y : Type 0} → (X → Y → Command) → (List ℕ → Option X) → (List ℕ → Option Y) → List (List ℕ) → Option Command
with_two c f g ws = option_map (λ p. c p.0 p.1) (two_said f g ws)

-- How a command is read: its name, and what the words after it make of it.
pub record Reader : Type 0 where
  pub name : List ℕ
  pub read : List (List ℕ) → Option Command

abbrev pub reader : List ℕ → (List (List ℕ) → Option Command) → Reader
reader n f = record { name = n; read = f }

abbrev pub readers : List Reader
readers =
    reader (codes "part") (with_two Part style_of bits16)
    ∷ reader (codes "window") (with_two Window bits16 bits16)
    ∷ reader (codes "power") (with_two Power bits32 bits8)
    ∷ reader (codes "off") (alone Off)
    ∷ reader (codes "write") (with_two Write bits16 row_bytes)
    ∷ reader (codes "blank") (with_one Blank bits16)
    ∷ reader (codes "raise") (alone Raise)
    ∷ reader (codes "read") (with_one Read bits16)
    ∷ reader (codes "count") (alone Count)
    ∷ reader (codes "rows") (alone Rows)
    ∷ reader (codes "load") (with_one Load bits16)
    ∷ []

-- What the first reader with that name makes of the words.
abbrev pub read_by : List Reader → List ℕ → List (List ℕ) → Option Command
read_by [] name args = None
read_by (r ∷ rs) name args = cond (bytes_eq name r.name) (r.read args) (read_by rs name args)

-- The first word is the name.
abbrev pub by_words : List (List ℕ) → Option Command
by_words [] = None
by_words (name ∷ args) = read_by readers name args

-- The command that a cleaned line is.
unfoldable pub command_of : List ℕ → Option Command
command_of line = by_words (words_of line)
