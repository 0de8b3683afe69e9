-- What a window shows of a memory, and what it never touches. Assumes nothing.
use Rattle.std.specs.Prelude.{◌≡◌, ℕ, ◌+◌, ◌<◌, ◌≤◌, ◌⊎◌, length, take, drop, Some, None, Ok, Err, Option, Result}
use Rattle.base.specs.declared.Case.TheVariants.{NoRow}
use Rattle.base.specs.declared.Layer.TheVariants.{Memory}
use Rattle.base.specs.declared.Fault.{Fault}
use Rattle.base.specs.Faults.{fault_at}
use Rattle.memory.specs.Model.{Held, Mem, with_held, at}

-- The n rows from row f on; power is the memory's.
abbrev pub shown_held : ℕ → ℕ → Held → Held
shown_held f n h = record { rows = take n (drop f h.rows); power = h.power }

-- All else is the memory's too.
abbrev pub shown_mem : ℕ → ℕ → Mem → Mem
shown_mem f n m = with_held m (shown_held f n m.held)

-- A refusal with the row in the window's own numbering, i; one that is about no row stays.
abbrev pub row_renumbered : ℕ → Option ℕ → Option ℕ
row_renumbered i None = None
row_renumbered i (Some k) = Some i

abbrev pub renumber : {X : Type 0} → ℕ → Result X Fault → Result X Fault
renumber i (Ok x) = Ok x
renumber i (Err e) = Err (record { case = e.case; layer = e.layer; row = row_renumbered i e.row })

-- Row i of the window is row f + i, where the window has it.
abbrev pub Placed : ℕ → ℕ → Held → ℕ → Result ℕ Fault → Type 0
Placed f n h i (Ok k) = (k ≡ f + i) × (i < length (shown_held f n h).rows)
Placed f n h i (Err e) = (e ≡ fault_at NoRow Memory i) × (length (shown_held f n h).rows ≤ i)

-- No row but the n from row f on has changed, and no row came or went.
pub record Untouched (f n : ℕ) (before after : Held) : Type 0 where
  pub size : length after.rows ≡ length before.rows
  pub outside : (j : ℕ) → (j < f) ⊎ (f + n ≤ j) → at after j ≡ at before j
