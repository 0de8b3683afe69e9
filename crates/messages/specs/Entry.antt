-- The entry for C: the kind of a message, or a refusal. Assumes nothing.
use Rattle.std.specs.Prelude.{◌≡◌, ℕ, suc, ◌+◌, cond, List, [], ◌∷◌, length, drop, Some, None, Ok, Err, Option, Result, ◌==◌}
use Rattle.base.specs.declared.Case.{Case}
use Rattle.base.specs.declared.Case.TheVariants.{Empty, NoKind, BadLength}
use Rattle.base.specs.Faults.{number}
use Rattle.messages.specs.declared.kind.End.{End}
use Rattle.messages.specs.declared.kind.Kind.{Kind}
use Rattle.messages.specs.Kinds.{about, kind_by}
use Rattle.messages.specs.Wire.{Said, kind_of, said_by}
use Rattle.messages.specs.Codec.{reading}

-- The kind of a message that has its kind's length.
abbrev pub of_length : Option Kind → ℕ → Result Kind Case
of_length None n = Err NoKind
of_length (Some k) n = cond (n == (about k).bytes) (Ok k) (Err BadLength)

abbrev pub whole_kind : List ℕ → Result Kind Case
whole_kind [] = Err Empty
whole_kind (n ∷ rest) = of_length (kind_by n) (suc (length rest))

-- A kind's number, or a refusal's and 100.
abbrev pub shown_kind : Result Kind Case → ℕ
shown_kind (Ok k) = (about k).number
shown_kind (Err c) = 100 + number c

abbrev pub kind_answer : List ℕ → ℕ
kind_answer bs = shown_kind (whole_kind bs)

-- What the entry tells is what an end reads.
pub record EntryLaws : Type 0 where
  -- of a message that an end reads, the entry tells the kind
  pub tells : (end : End) (bs : List ℕ) (s : Said) → reading end bs ≡ Ok s → kind_answer bs ≡ (about (kind_of s)).number
  -- a message whose kind the entry tells is read at the end that the kind is for
  pub reads : (bs : List ℕ) (k : Kind) → whole_kind bs ≡ Ok k → reading (about k).reader bs ≡ Ok (said_by k (drop 1 bs))
