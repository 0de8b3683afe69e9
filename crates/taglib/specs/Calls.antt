-- What the calls for C answer. Assumes nothing.
use Rattle.std.specs.Prelude.{ℕ, cond, Ok, Err, Result, ◌==◌}
use Rattle.base.specs.declared.Case.TheVariants.{BadShape}
use Rattle.base.specs.declared.Fault.{Fault}
use Rattle.base.specs.declared.Layer.TheVariants.{Common}
use Rattle.base.specs.Faults.{fault, number}
use Rattle.tagging.specs.Tags.{tag_answer}

-- A key has sixteen bytes; then a tagger answers, by the lengths of the text, of the area for the tag and of the working area.
abbrev pub keyed_answer : ℕ → ℕ → ℕ → ℕ → Result (Unit {0}) Fault
keyed_answer key text out work = cond (key == 16) (tag_answer text out work) (Err (fault BadShape Common))

-- Nothing, or the number of the fault.
abbrev pub shown : Result (Unit {0}) Fault → ℕ
shown (Ok u) = 0
shown (Err f) = number f.case
