-- What an image is, and which of two the loader takes. Assumes nothing.
use Rattle.std.specs.Prelude.{ℕ, ◌+◌, ◌-◌, ◌*◌, Bool, true, false, cond, not, ◌&&◌, List, [], ◌∷◌, length, take, drop, Some, None, Ok, Err, Option, Result, ◌==◌, nat_le, nat_lt, slice_index_or}
use Rattle.std.specs.List.{fold, list_all}
use Rattle.base.specs.declared.Case.TheVariants.{BadShape, PowerOff, NoImage}
use Rattle.base.specs.declared.Layer.TheVariants.{Memory, Loader}
use Rattle.base.specs.declared.Fault.{Fault}
use Rattle.base.specs.Faults.{fault_at, fault}
use Rattle.base.specs.Numbers.{leading}
use Rattle.loader.specs.declared.Slot.{Slot}
use Rattle.loader.specs.declared.Slot.TheVariants.{First, Second}
use Rattle.loader.specs.declared.Image.{Image}
use Rattle.memory.specs.Model.{Row, written, blank, spoilt, Held, shown_of}

-- The number that a user is told of a slot.
abbrev pub slot_number : Slot → ℕ
slot_number First = 1
slot_number Second = 2

-- Two 16-bit words added, a carry out of the sixteen bits added back in.
abbrev pub add16 : ℕ → ℕ → ℕ
add16 a b = cond (nat_lt (a + b) 65536) (a + b) (a + b - 65535)

-- The words of some bytes, two bytes each, highest first, added to a. A row has no odd byte at its end.
abbrev pub sum_bytes : ℕ → List ℕ → ℕ
sum_bytes a [] = a
sum_bytes a (x ∷ []) = a
sum_bytes a (x ∷ y ∷ bs) = sum_bytes (add16 a (x * 256 + y)) bs

-- The words of some rows, added to a.
abbrev pub sum_rows : ℕ → List Row → ℕ
sum_rows a rs = fold (λ s r. sum_bytes s (shown_of r)) a rs

abbrev pub is_written : Row → Bool
is_written (written bs) = true
is_written blank = false
is_written spoilt = false

abbrev pub all_written : List Row → Bool
all_written rs = list_all is_written rs

-- An image's version: the number in the first eight bytes of its first row.
abbrev pub version : List Row → ℕ
version rs = leading 8 (shown_of (slice_index_or rs 0 blank))

-- What makes written rows a whole image: a version that is not zero, and a sum of 65,535.
abbrev pub whole_by : ℕ → ℕ → Bool
whole_by v s = not (v == 0) && s == 65535

-- An image is whole if every row is written, its version is not zero, and its words add up to 65,535.
abbrev pub whole : List Row → Bool
whole rs = all_written rs && whole_by (version rs) (sum_rows 0 rs)

-- The l rows of the slot that begins at row f.
abbrev pub rows_of_slot : ℕ → ℕ → List Row → List Row
rows_of_slot l f rows = take l (drop f rows)

-- The image that a terminal stands on: the slot that it is in, and its rows.
pub record Standing : Type 0 where
  pub slot : Slot
  pub image : List Row

-- Slots of l rows: the first if it is whole, else the second if that is whole.
abbrev pub standing : ℕ → List Row → Option Standing
standing l rows =
    cond (whole (rows_of_slot l 0 rows))
    (Some (record { slot = First; image = rows_of_slot l 0 rows }))
    (cond (whole (rows_of_slot l l rows)) (Some (record { slot = Second; image = rows_of_slot l l rows })) None)

-- A slot has 2 to 64 rows, and a memory of n rows has two slots.
abbrev pub shaped : ℕ → ℕ → Bool
shaped l n = nat_le 2 l && (nat_le l 64 && nat_le (2 * l) n)

-- The slot that stands with its image's version, or that there is no image.
abbrev pub answered : Option Standing → Result Image Fault
answered (Some s) = Ok (record { slot = s.slot; version = version s.image })
answered None = Err (fault NoImage Loader)

-- What choosing between the two slots answers: the slot that is taken, and that image's version.
abbrev pub choosing : Held → ℕ → Result Image Fault
choosing h l = cond h.power (answered (standing l h.rows)) (Err (fault_at PowerOff Memory 0))

-- What the loader answers. The shape is tried first.
unfoldable pub loading : Held → ℕ → Result Image Fault
loading h l = cond (shaped l (length h.rows)) (choosing h l) (Err (fault BadShape Loader))

-- The row that a slot of l rows begins at.
abbrev pub first_row : ℕ → Slot → ℕ
first_row l First = 0
first_row l Second = l

-- The image in a slot with these rows, if it is whole.
abbrev pub found : Slot → List Row → Option Image
found s rs = cond (whole rs) (Some (record { slot = s; version = version rs })) None

-- What looking at a slot of l rows answers.
abbrev pub looking : Held → ℕ → Slot → Result (Option Image) Fault
looking h l s = cond h.power (Ok (found s (rows_of_slot l (first_row l s) h.rows))) (Err (fault_at PowerOff Memory (first_row l s)))
