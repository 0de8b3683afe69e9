-- What each call of a memory keeps and changes, in words that hold of every memory. Assumes nothing.
use Rattle.std.specs.Prelude.{◌≡◌, ℕ, ◌+◌, true, false, ◌≢◌, ◌⊎◌, length, Ok, Err}
use Rattle.base.specs.declared.Case.TheVariants.{PowerCut}
use Rattle.base.specs.declared.Layer.TheVariants.{Memory}
use Rattle.base.specs.Faults.{fault_at, fault}
use Rattle.memory.specs.Model.{Row, spoilt, Mem, Outcome, at}

-- The call found m, answered o .0 and left o .1: row i was to become x.
pub record PutLaws (m : Mem) (i : ℕ) (x : Row) (o : Outcome) : Type 0 where
  pub size : length o.1.held.rows ≡ length m.held.rows
  pub count : o.1.count ≡ m.count
  pub ceiling : o.1.ceiling ≡ m.ceiling
  -- every other row keeps its kind and bytes
  pub others : (j : ℕ) → j ≢ i → at o.1.held j ≡ at m.held j
  -- the row is the old one, the new one, or spoilt
  pub here : (at o.1.held i ≡ at m.held i) ⊎ ((at o.1.held i ≡ x) ⊎ (at o.1.held i ≡ spoilt))
  -- a success leaves the new row, and power on
  pub done : o.0 ≡ Ok tt → (at o.1.held i ≡ x) × (o.1.held.power ≡ true)
  -- a cut leaves power off
  pub cut : o.0 ≡ Err (fault_at PowerCut Memory i) → o.1.held.power ≡ false

-- The count was to rise.
pub record RaiseLaws (m : Mem) (o : Outcome) : Type 0 where
  pub rows : o.1.held.rows ≡ m.held.rows
  pub ceiling : o.1.ceiling ≡ m.ceiling
  -- the count rises by one or stays
  pub steps : (o.1.count ≡ m.count) ⊎ (o.1.count ≡ m.count + 1)
  -- a success has raised it, and leaves power on
  pub done : o.0 ≡ Ok tt → (o.1.count ≡ m.count + 1) × (o.1.held.power ≡ true)
  -- a cut leaves power off
  pub cut : o.0 ≡ Err (fault PowerCut Memory) → o.1.held.power ≡ false

-- Power-up and off leave rows, count and ceiling.
pub record SupplyLaws (m : Mem) (o : Outcome) : Type 0 where
  pub rows : o.1.held.rows ≡ m.held.rows
  pub count : o.1.count ≡ m.count
  pub ceiling : o.1.ceiling ≡ m.ceiling
