-- The working area that a caller lends to a call. Assumes nothing.
use Rattle.std.specs.Prelude.{ℕ, List, replicate, Ok, Err, Result}

-- The bytes that a call needs.
abbrev pub work_bytes : ℕ
work_bytes = 192

-- What an area of n bytes holds after every call that had it.
abbrev pub zeros : ℕ → List ℕ
zeros n = replicate n 0

-- What an area holds after a call: the new content where the call succeeded, the old one where it refused.
abbrev pub after : {T E X : Type 0} → Result T E → X → X → X
after (Ok _) new old = new
after (Err _) new old = old
