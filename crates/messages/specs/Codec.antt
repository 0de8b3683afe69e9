-- Reading a message at an end, and writing one into an area. Assumes nothing.
use Rattle.std.specs.Prelude.{ℕ, suc, cond, List, [], ◌∷◌, ◌++◌, length, drop, Some, None, Ok, Err, Option, Result, ◌==◌, nat_lt}
use Rattle.base.specs.declared.Case.TheVariants.{Empty, NoKind, WrongEnd, BadLength, ShortArea}
use Rattle.base.specs.declared.Fault.{Fault}
use Rattle.base.specs.declared.Layer.TheVariants.{Common}
use Rattle.base.specs.Faults.{fault}
use Rattle.messages.specs.declared.kind.End.{End}
use Rattle.messages.specs.declared.kind.Kind.{Kind}
use Rattle.messages.specs.declared.message.Message.{Message}
use Rattle.messages.specs.Kinds.{about, kind_by, layer_of, same_end}
use Rattle.messages.specs.Wire.{Said, meant, kind_of, said_by, bytes_of}

-- What an end reads in the bytes of a message, by the kind that its first byte names.
abbrev pub reading_as : End → Option Kind → List ℕ → Result Said Fault
reading_as end None rest = Err (fault NoKind Common)
reading_as end (Some k) rest =
    cond (same_end end (about k).reader)
    (cond (suc (length rest) == (about k).bytes) (Ok (said_by k rest)) (Err (fault BadLength Common)))
    (Err (fault WrongEnd (layer_of end)))

abbrev pub reading : End → List ℕ → Result Said Fault
reading end [] = Err (fault Empty Common)
reading end (n ∷ rest) = reading_as end (kind_by n) rest

-- The code's answer, as what it says.
abbrev pub told : Result Message Fault → Result Said Fault
told (Ok m) = Ok (meant m)
told (Err f) = Err f

-- The answer to writing into an area of n bytes, and what a long enough area then holds.
abbrev pub writing : Said → ℕ → Result ℕ Fault
writing s n = cond (nat_lt n (about (kind_of s)).bytes) (Err (fault ShortArea Common)) (Ok (about (kind_of s)).bytes)

abbrev pub written : Said → List ℕ → List ℕ
written s area = bytes_of s ++ drop (about (kind_of s)).bytes area
