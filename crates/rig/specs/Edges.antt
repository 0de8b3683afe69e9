-- The cases at the edges, each as one equation. Assumes nothing.
use Rattle.std.specs.Prelude.{◌≡◌, ℕ, true, false, List, [], ◌∷◌, ◌++◌, replicate, Ok, Err, codes}
use Rattle.base.specs.declared.Case.TheVariants.{BadShape, NoRow, PowerCut, NoImage}
use Rattle.base.specs.declared.Layer.TheVariants.{Memory, Loader}
use Rattle.base.specs.Faults.{fault_at, fault as fault_of}
use Rattle.memory.specs.Model.{Row, written, blank, spoilt, Held, Mem, raising}
use Rattle.memory.specs.declared.RowKind.TheVariants.{Written, Blank, Spoilt}
use Rattle.reply.specs.Replies.{line_text, refused, count, rows, loaded}
use Rattle.cells.specs.Strip.{zeros, Legal, three_strip}
use Rattle.loader.specs.declared.Slot.TheVariants.{First, Second}
use Rattle.loader.specs.Image.{sum_bytes, whole, loading}

-- A row of zeros but for its eighth byte, where a version ends, and its last word, of bytes a and b.
abbrev pub row : ℕ → ℕ → ℕ → Row
row v a b = written (replicate 7 0 ++ (v ∷ replicate 54 0 ++ (a ∷ b ∷ [])))

-- Images of two rows, of versions 1 and 2.
abbrev pub image_one : List Row
image_one = row 1 0 0 ∷ row 0 255 254 ∷ []

abbrev pub image_two : List Row
image_two = row 2 0 0 ∷ row 0 255 253 ∷ []

-- Rows, with power on.
abbrev pub on : List Row → Held
on rs = record { rows = rs; power = true }

abbrev pub blanks : Held
blanks = on (replicate 192 blank)

-- A memory whose count is 5, and whose supply fails in the next change.
abbrev pub five : ℕ → Mem
five t = record { held = blanks; count = 5; ceiling = 4096; charge = 0; tear = t }

-- What an image is.
pub record ImageEdges : Type 0 where
  -- the words 0001, f203, f4f5 and f6f7 add up to ddf2
  pub words : sum_bytes 0 (0 ∷ 1 ∷ 242 ∷ 3 ∷ 244 ∷ 245 ∷ 246 ∷ 247 ∷ []) ≡ 56818
  -- a last word of fffe makes the sum 65,535, and ffff does not
  pub made : whole image_one ≡ true
  pub over : whole (row 1 0 0 ∷ row 0 255 255 ∷ []) ≡ false
  pub zeros : whole (row 0 0 0 ∷ row 0 0 0 ∷ []) ≡ false
  -- the sum alone does not do: with its last row blank an image is not whole, and with that row zeros it is
  pub bare : whole (row 1 255 254 ∷ blank ∷ []) ≡ false
  pub filled : whole (row 1 255 254 ∷ row 0 0 0 ∷ []) ≡ true

-- Which image the loader takes.
pub record LoadEdges : Type 0 where
  -- both are whole, and slot 1 with a spoilt row
  pub both : loading (on (image_one ++ image_two)) 2 ≡ Ok (record { slot = First; version = 1 })
  pub second : loading (on ((row 1 0 0 ∷ spoilt ∷ []) ++ image_two)) 2 ≡ Ok (record { slot = Second; version = 2 })
  -- slots of 1 and 65 rows are refused, of 2 and 64 are taken
  pub below : loading blanks 1 ≡ Err (fault_of BadShape Loader)
  pub least : loading blanks 2 ≡ Err (fault_of NoImage Loader)
  pub most : loading blanks 64 ≡ Err (fault_of NoImage Loader)
  pub above : loading blanks 65 ≡ Err (fault_of BadShape Loader)

-- What a cut in a raising leaves of the count: tear 1 alone has the new one.
pub record RaiseEdges : Type 0 where
  pub old : (raising (five 0)).1.count ≡ 5
  pub new : (raising (five 1)).1.count ≡ 6
  pub torn : (raising (five 2)).1.count ≡ 5
  pub cut : (t : ℕ) → (raising (five t)).0 ≡ Err (fault_of PowerCut Memory)

-- What a strip of 0x1f and then all 255 has counted.
pub record StripEdges : Type 0 where
  pub legal : Legal three_strip
  pub three : zeros three_strip ≡ 3

-- Some lines, as they are printed.
pub record PrintEdges : Type 0 where
  pub fault : line_text (codes "blank") (refused (fault_at NoRow Memory 9)) ≡ codes "blank: fault 7 layer 1 row 9\n"
  pub count : line_text (codes "count") (count 3 4096) ≡ codes "count: 3 of 4096\n"
  pub rows : line_text (codes "rows") (rows (Written ∷ (Blank ∷ (Spoilt ∷ [])))) ≡ codes "rows: wbs\n"
  pub loads : line_text (codes "load") (loaded 1 20) ≡ codes "load: slot 1 version 20\n"

-- All of them.
pub record Edges : Type 0 where
  pub image : ImageEdges
  pub load : LoadEdges
  pub raise : RaiseEdges
  pub strip : StripEdges
  pub print : PrintEdges
