-- A part's supply: what it lets a change do, and what a change becomes by it. Assumes nothing.
use Rattle.std.specs.Prelude.{ℕ, ◌-◌, Bool, false, cond, Some, None, Ok, Err, List, Option, Result, ◌==◌, nat_lt}
use Rattle.base.specs.declared.Case.TheVariants.{BadShape, PowerOff, CountFull}
use Rattle.base.specs.declared.Layer.TheVariants.{Memory}
use Rattle.base.specs.declared.Fault.{Fault}
use Rattle.base.specs.Faults.{fault}
use Rattle.memory.specs.Model.{Row, written, blank, spoilt}
use Rattle.parts.specs.declared.supply.Supply.{Supply}
use Rattle.parts.specs.declared.supply.Tear.{Tear}
use Rattle.parts.specs.declared.supply.Tear.TheVariants.{Old, New, Spoilt}

abbrev pub supply : Bool → ℕ → Tear → Supply
supply power charge tear = record { power = power; charge = charge; tear = tear }

-- The number of a tear, and the tear with a number.
abbrev pub tear_number : Tear → ℕ
tear_number Old = 0
tear_number New = 1
tear_number Spoilt = 2

abbrev pub tear_of : ℕ → Result Tear Fault
tear_of n = cond (n == 0) (Ok Old) (cond (n == 1) (Ok New) (cond (n == 2) (Ok Spoilt) (Err (fault BadShape Memory))))

-- What the supply lets the next change do: with charge left it is done, else the cut leaves what the tear says.
abbrev pub drawing : Supply → Result (Unit {0}) Tear
drawing s = cond (s.charge == 0) (Err s.tear) (Ok tt)

-- A change takes one charge, and with none left the power goes off.
abbrev pub drawn : Supply → Supply
drawn s = cond (s.charge == 0) (supply false s.charge s.tear) (supply s.power (s.charge - 1) s.tear)

-- Whether a count can rise: there has to be power, and room below the ceiling.
abbrev pub admitting_raise : Bool → ℕ → ℕ → Result (Unit {0}) Fault
admitting_raise power count ceiling = cond power (cond (nat_lt count ceiling) (Ok tt) (Err (fault CountFull Memory))) (Err (fault PowerOff Memory))

-- What a row becomes that was to become another.
abbrev pub left_row : Result (Unit {0}) Tear → Row → Row → Row
left_row (Ok _) old new = new
left_row (Err Old) old new = old
left_row (Err New) old new = new
left_row (Err Spoilt) old new = spoilt

-- What a count becomes that was to become another. A count cannot be spoilt: it stays.
abbrev pub left_count : Result (Unit {0}) Tear → ℕ → ℕ → ℕ
left_count (Ok _) old new = new
left_count (Err Old) old new = old
left_count (Err New) old new = new
left_count (Err Spoilt) old new = old

-- What a change makes of a row: it is written with bytes, or blank where there are none.
abbrev pub becoming : Option (List ℕ) → Row
becoming (Some bytes) = written bytes
becoming None = blank
