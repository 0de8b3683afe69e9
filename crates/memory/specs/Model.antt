-- What a memory means, and what each call answers and leaves. Assumes nothing.
use Rattle.std.specs.Prelude.{ℕ, ◌+◌, ◌-◌, Bool, true, false, cond, List, length, replicate, Some, None, Ok, Err, Option, Result, ◌==◌, nat_lt, slice_index_or, slice_set}
use Rattle.base.specs.declared.Case.TheVariants.{BadShape, NoRow, PowerOff, PowerCut, CountFull}
use Rattle.base.specs.declared.Layer.TheVariants.{Memory}
use Rattle.base.specs.declared.Fault.{Fault}
use Rattle.base.specs.Faults.{fault_at, fault}
use Rattle.memory.specs.declared.RowKind.{RowKind}
use Rattle.memory.specs.declared.RowKind.TheVariants.{Written, Blank, Spoilt}

-- A row is written, with its 64 bytes, or blank, or spoilt: what a cut may leave.
pub data Row : Type 0 where
  written : List ℕ → Row
  blank : Row
  spoilt : Row

-- What can be read of a memory: its rows, if power is on.
pub record Held : Type 0 where
  pub rows : List Row
  pub power : Bool

-- A memory. The count stays at or below the ceiling. The charge is the number of writes, blankings and raisings
-- until the supply fails, and the tear says what the one that it fails in leaves: 0 the old, 1 the new, 2 a spoilt row.
pub record Mem : Type 0 where
  pub held : Held
  pub count : ℕ
  pub ceiling : ℕ
  pub charge : ℕ
  pub tear : ℕ

abbrev pub kind_of : Row → RowKind
kind_of (written bs) = Written
kind_of blank = Blank
kind_of spoilt = Spoilt

-- What a row reads as.
abbrev pub shown_of : Row → List ℕ
shown_of (written bs) = bs
shown_of blank = replicate 64 0
shown_of spoilt = replicate 64 0

-- Row i, of those that there are.
abbrev pub at : Held → ℕ → Row
at h i = slice_index_or h.rows i blank

-- Reading row i into a 64-byte area: the answer, and the area afterwards.
unfoldable pub reading : Held → ℕ → List ℕ → Result RowKind Fault × List ℕ
reading h i area =
    cond (nat_lt i (length h.rows))
    (cond h.power (Ok (kind_of (at h i)), shown_of (at h i)) (Err (fault_at PowerOff Memory i), area))
    (Err (fault_at NoRow Memory i), area)

-- What row i is, told with or without power.
abbrev pub probing : Held → ℕ → Option RowKind
probing h i = cond (nat_lt i (length h.rows)) (Some (kind_of (at h i))) None

-- What a call that changes a memory answers, and the memory that it leaves.
abbrev pub Outcome : Type 0
Outcome = Result (Unit {0}) Fault × Mem

-- What a cut leaves of a row that was to become another.
abbrev pub torn : ℕ → Row → Row → Row
torn t old new = cond (t == 0) old (cond (t == 1) new spoilt)

-- What a cut leaves of a count that was to rise: only tear 1 has the new one.
abbrev pub torn_count : ℕ → ℕ → ℕ
torn_count t n = cond (t == 1) (n + 1) n

-- The parts of a memory that a call changes, each with all else as it was.
abbrev pub with_held : Mem → Held → Mem
with_held m h = record { held = h; count = m.count; ceiling = m.ceiling; charge = m.charge; tear = m.tear }

abbrev pub with_row : Mem → ℕ → Row → Mem
with_row m i x = with_held m (record { rows = slice_set m.held.rows i x; power = m.held.power })

abbrev pub with_power : Mem → Bool → Mem
with_power m on = with_held m (record { rows = m.held.rows; power = on })

abbrev pub with_count : Mem → ℕ → Mem
with_count m n = record { held = m.held; count = n; ceiling = m.ceiling; charge = m.charge; tear = m.tear }

abbrev pub with_supply : Mem → ℕ → ℕ → Mem
with_supply m c t = record { held = m.held; count = m.count; ceiling = m.ceiling; charge = c; tear = t }

abbrev pub spent : Mem → Mem
spent m = with_supply m (m.charge - 1) m.tear

-- Row i becomes x. With no charge left the supply fails in it.
unfoldable pub putting : Mem → ℕ → Row → Outcome
putting m i x =
    cond (nat_lt i (length m.held.rows))
    (cond m.held.power
    (cond (m.charge == 0)
    (Err (fault_at PowerCut Memory i), with_power (with_row m i (torn m.tear (at m.held i) x)) false)
    (Ok tt, spent (with_row m i x)))
    (Err (fault_at PowerOff Memory i), m))
    (Err (fault_at NoRow Memory i), m)

abbrev pub writing : Mem → ℕ → List ℕ → Outcome
writing m i bs = putting m i (written bs)

abbrev pub blanking : Mem → ℕ → Outcome
blanking m i = putting m i blank

-- The count rises by one. At the ceiling it is refused, whatever the charge.
unfoldable pub raising : Mem → Outcome
raising m =
    cond m.held.power
    (cond (nat_lt m.count m.ceiling)
    (cond (m.charge == 0)
    (Err (fault PowerCut Memory), with_power (with_count m (torn_count m.tear m.count)) false)
    (Ok tt, spent (with_count m (m.count + 1))))
    (Err (fault CountFull Memory), m))
    (Err (fault PowerOff Memory), m)

-- Power comes on, with any charge and a tear of 0 to 2. A memory that is on takes it too.
unfoldable pub powering_up : Mem → ℕ → ℕ → Outcome
powering_up m charge tear =
    cond (nat_lt tear 3) (Ok tt, with_supply (with_power m true) charge tear) (Err (fault BadShape Memory), m)

abbrev pub switching_off : Mem → Mem
switching_off m = with_power m false
