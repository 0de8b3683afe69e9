-- What a tagger answers, and what it leaves of the area that it writes into. Assumes nothing.
use Rattle.std.specs.Prelude.{ℕ, ◌+◌, ◌≤◌, cond, ◌||◌, List, ◌++◌, take, drop, Ok, Err, Result, nat_lt}
use Rattle.base.specs.declared.Case.TheVariants.{ShortArea, TooLong}
use Rattle.base.specs.declared.Fault.{Fault}
use Rattle.base.specs.declared.Layer.TheVariants.{Common}
use Rattle.base.specs.Faults.{fault}
use Rattle.base.specs.Work.{work_bytes}

-- The bytes of a tag, and the longest text.
abbrev pub tag_bytes : ℕ
tag_bytes = 8

abbrev pub text_bytes : ℕ
text_bytes = 128

-- What a tagger answers, by the lengths of the text, of the area for the tag and of the working area: a short area is told
-- before a long text.
abbrev pub tag_answer : ℕ → ℕ → ℕ → Result (Unit {0}) Fault
tag_answer text out work =
    cond (nat_lt work work_bytes || nat_lt out tag_bytes) (Err (fault ShortArea Common)) (cond (nat_lt text_bytes text) (Err (fault TooLong Common)) (Ok tt))

-- A tag at the front of an area, and from a place on: every other byte stays.
abbrev pub tag_first : List ℕ → List ℕ → List ℕ
tag_first tag area = tag ++ drop tag_bytes area

abbrev pub tag_from : ℕ → List ℕ → List ℕ → List ℕ
tag_from place tag area = take place area ++ (tag ++ drop (place + tag_bytes) area)

-- What holds where a text is admitted.
pub record Room (text out work : ℕ) : Type 0 where
  pub long : work_bytes ≤ work
  pub wide : tag_bytes ≤ out
  pub short : text ≤ text_bytes
