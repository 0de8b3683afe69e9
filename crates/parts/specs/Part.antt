-- What a part means, given what its rows mean and what its counter counts, and how it is made. Assumes nothing.
use Rattle.std.specs.Prelude.{◌≡◌, ℕ, ◌≤◌, false, cond, map, length, replicate, Ok, Err, vec_items, Result, nat_lt}
use Rattle.base.specs.declared.Case.TheVariants.{BadShape, NoRow, PowerOff}
use Rattle.base.specs.declared.Layer.TheVariants.{Memory}
use Rattle.base.specs.declared.Fault.{Fault}
use Rattle.base.specs.Faults.{fault_at, fault}
use Rattle.memory.specs.Model.{Row, blank, Held, Mem}
use Rattle.parts.specs.Bounds.{max_rows}
use Rattle.parts.specs.Supply.{tear_number}
use Rattle.parts.specs.declared.Part.{Part}
use Rattle.parts.specs.declared.NotMade.{NotMade}
use Rattle.parts.specs.declared.NotMade.TheVariants.{Shape, NoMemory}

-- The rows of a part, and its power.
abbrev pub held_of : {R C : Type 0} → (R → Row) → Part R C → Held
held_of means p = record { rows = map means (vec_items p.cells); power = p.supply.power }

-- All of a part: the memory that it is.
abbrev pub meaning_of : {R C : Type 0} → (R → Row) → (C → ℕ) → ℕ → Part R C → Mem
meaning_of means counted limit p =
    record { held = held_of means p; count = counted p.counter; ceiling = limit; charge = p.supply.charge; tear = tear_number p.supply.tear }

-- Whether row i can be read or changed: there has to be such a row, and power.
abbrev pub admitting : Held → ℕ → Result (Unit {0}) Fault
admitting h i =
    cond (nat_lt i (length h.rows)) (cond h.power (Ok tt) (Err (fault_at PowerOff Memory i))) (Err (fault_at NoRow Memory i))

-- A new part of n rows: off and blank.
abbrev pub new_mem : ℕ → ℕ → Mem
new_mem limit n =
    record { held = record { rows = replicate n blank; power = false }; count = 0; ceiling = limit; charge = 0; tear = 0 }

-- A part has 1 to 192 rows.
abbrev pub InRange : ℕ → Type 0
InRange n = (1 ≤ n) × (n ≤ max_rows)

-- Why no part of n rows was made: out of range, or in range for want of memory of the host.
abbrev pub Refusal : ℕ → NotMade → Type 0
Refusal n (Shape f) = (f ≡ fault BadShape Memory) × (InRange n → ⊥)
Refusal n (NoMemory _) = InRange n

-- What making a part of n rows answers.
abbrev pub Made : {R C : Type 0} → (R → Row) → (C → ℕ) → ℕ → ℕ → Result (Part R C) NotMade → Type 0
Made means counted limit n (Ok p) = InRange n × (meaning_of means counted limit p ≡ new_mem limit n)
Made means counted limit n (Err e) = Refusal n e
