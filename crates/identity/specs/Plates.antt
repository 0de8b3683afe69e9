-- Plates: which texts have one, and its twelve bytes. Assumes nothing.
use Rattle.std.specs.Prelude.{◌≡◌, ℕ, ◌-◌, Bool, true, cond, not, ◌&&◌, List, [], ◌∷◌, ◌++◌, length, replicate, Ok, Err, Result, ◌==◌, nat_le, nat_lt, slice_index}
use Rattle.std.specs.List.{list_all}
use Rattle.base.specs.declared.Case.TheVariants.{BadShape}
use Rattle.base.specs.declared.Fault.{Fault}
use Rattle.base.specs.declared.Layer.TheVariants.{Common}
use Rattle.base.specs.Faults.{fault}

-- The bytes of a plate, and the one that fills it up.
abbrev pub plate_bytes : ℕ
plate_bytes = 12

abbrev pub space : ℕ
space = 32

-- A byte that a plate may have.
abbrev pub is_printable : ℕ → Bool
is_printable b = nat_le 32 b && nat_le b 126

abbrev pub all_printable : List ℕ → Bool
all_printable bs = list_all is_printable bs

abbrev pub all_spaces : List ℕ → Bool
all_spaces bs = list_all (λ b. b == space) bs

-- The last byte of a text.
abbrev pub last_byte : List ℕ → ℕ
last_byte t = slice_index t (length t - 1)

-- 1 to 12 bytes, the last of them no space.
abbrev pub fits_plate : List ℕ → Bool
fits_plate t = nat_lt 0 (length t) && nat_le (length t) plate_bytes && not (last_byte t == space)

-- A text that has a plate.
unfoldable pub is_plate_text : List ℕ → Bool
is_plate_text t = fits_plate t && all_printable t

-- A text filled up with spaces to twelve bytes.
abbrev pub padded : List ℕ → List ℕ
padded t = t ++ replicate (plate_bytes - length t) space

-- The bytes of a text's plate.
abbrev pub plate_of : List ℕ → Result (List ℕ) Fault
plate_of t = cond (is_plate_text t) (Ok (padded t)) (Err (fault BadShape Common))

-- Bytes that are some plate's: twelve from 32 to 126, not all of them spaces.
abbrev pub is_plate : List ℕ → Bool
is_plate bs = length bs == plate_bytes && all_printable bs && not (all_spaces bs)

-- A text without the spaces at its end.
abbrev pub trimmed : List ℕ → List ℕ
trimmed [] = []
trimmed (b ∷ bs) = cond (b == space && all_spaces bs) [] (b ∷ trimmed bs)

-- What holds of plates.
pub record PlateLaws : Type 0 where
  -- what a text becomes is some plate's bytes
  pub shape : (t bs : List ℕ) → plate_of t ≡ Ok bs → is_plate bs ≡ true
  -- the filling is told from the text
  pub text : (t bs : List ℕ) → plate_of t ≡ Ok bs → trimmed bs ≡ t
  -- so the same twelve bytes come from the same text
  pub one-text : (s t bs : List ℕ) → plate_of s ≡ Ok bs → plate_of t ≡ Ok bs → s ≡ t
  -- and each plate's bytes come from a text
  pub some-text : (bs : List ℕ) → is_plate bs ≡ true → plate_of (trimmed bs) ≡ Ok bs
