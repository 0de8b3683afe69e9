-- What the public calls answer. Assumes nothing.
use Rattle.std.specs.Prelude.{ℕ, cond, List, Ok, Err, Result, nat_lt}
use Rattle.base.specs.declared.Case.TheVariants.{ShortArea}
use Rattle.base.specs.declared.Fault.{Fault}
use Rattle.base.specs.declared.Layer.TheVariants.{Common}
use Rattle.base.specs.Faults.{fault}
use Rattle.base.specs.Work.{work_bytes}
use Rattle.aes.specs.declared.mac.Subkeys.{Subkeys}
use Rattle.aes.specs.Cipher.{aes}
use Rattle.aes.specs.Mac.{subkey1, subkey2}

-- An answer where the working area has enough bytes: otherwise the area is short.
abbrev pub in_room : {T : Type 0} → ℕ → T → Result T Fault
in_room work x = cond (nat_lt work work_bytes) (Err (fault ShortArea Common)) (Ok x)

-- The two subkeys of a key.
abbrev pub subkeys_of : List ℕ → Subkeys
subkeys_of key = record { first = subkey1 (aes key); second = subkey2 (aes key) }
