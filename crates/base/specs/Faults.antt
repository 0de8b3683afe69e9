-- The faults: the number of each case and of each layer, said here and nowhere else. Assumes nothing.
use Rattle.std.specs.Prelude.{ℕ, Option, Some, None}
use Rattle.base.specs.declared.Case.{Case}
use Rattle.base.specs.declared.Case.TheVariants.{Empty, NoKind, WrongEnd, BadLength, ShortArea, BadShape, NoRow, TooLong, PowerOff, PowerCut, NoImage, OutOfTurn, BadTag, CountFull, NotOurs, Aborted, NotListed}
use Rattle.base.specs.declared.Layer.{Layer}
use Rattle.base.specs.declared.Layer.TheVariants.{Common, Memory, Loader, Terminal, Server}
use Rattle.base.specs.declared.Fault.{Fault}

-- Below 20 it is a fault of the input, from 21 on a fault of the state.
abbrev pub number : Case → ℕ
number Empty = 1
number NoKind = 2
number WrongEnd = 3
number BadLength = 4
number ShortArea = 5
number BadShape = 6
number NoRow = 7
number TooLong = 8
number PowerOff = 21
number PowerCut = 22
number NoImage = 23
number OutOfTurn = 24
number BadTag = 25
number CountFull = 26
number NotOurs = 27
number Aborted = 28
number NotListed = 29

abbrev pub layer_number : Layer → ℕ
layer_number Common = 0
layer_number Memory = 1
layer_number Loader = 2
layer_number Terminal = 3
layer_number Server = 4

-- A fault at a row, and one that is about no row.
abbrev pub fault_at : Case → Layer → ℕ → Fault
fault_at c l i = record { case = c; layer = l; row = Some i }

abbrev pub fault : Case → Layer → Fault
fault c l = record { case = c; layer = l; row = None }

-- The row that a user is told where a fault is about no row.
abbrev pub nowhere : ℕ
nowhere = 65535

abbrev pub row_number : Option ℕ → ℕ
row_number (Some i) = i
row_number None = nowhere

-- What a fault tells a user: three numbers.
pub record Told : Type 0 where
  pub number : ℕ
  pub layer : ℕ
  pub row : ℕ

abbrev pub told : Fault → Told
told f = record { number = number f.case; layer = layer_number f.layer; row = row_number f.row }
