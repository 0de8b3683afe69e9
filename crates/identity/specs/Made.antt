-- What the making of a plate answers. Assumes nothing.
use Rattle.std.specs.Prelude.{ℕ, List, Ok, Err, Result}
use Rattle.base.specs.declared.Fault.{Fault}
use Rattle.identity.specs.declared.plate.Plate.{Plate}

-- The bytes of the plate, or the refusal.
abbrev pub bytes_in : Result Plate Fault → Result (List ℕ) Fault
bytes_in (Ok p) = Ok p.bytes
bytes_in (Err f) = Err f
