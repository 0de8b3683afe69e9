-- What the sum keeps, and what the loader's choice means, for every row and every memory. Assumes nothing.
use Rattle.std.specs.Prelude.{◌≡◌, ℕ, ◌+◌, ◌*◌, ◌<◌, ◌≤◌, ◌≢◌, ◌⊎◌, List, [], ◌∷◌, ◌++◌, length, Some, None, Ok, Decides, slice_index_or}
use Rattle.std.specs.List.{AllByRecursion}
use Rattle.memory.specs.Model.{Row, written, blank, Held, shown_of}
use Rattle.loader.specs.declared.Slot.TheVariants.{First, Second}
use Rattle.loader.specs.declared.Image.{Image}
use Rattle.loader.specs.Image.{add16, sum_rows, version, whole, rows_of_slot, Standing, standing, loading}

-- A row that holds bytes.
abbrev pub OfBytes : Row → Type 0
OfBytes r = AllByRecursion (λ b. b < 256) (shown_of r)

-- The plain total of the words of some bytes and of some rows, with nothing carried.
abbrev pub bytes_total : List ℕ → ℕ
bytes_total [] = 0
bytes_total (x ∷ []) = 0
bytes_total (x ∷ y ∷ bs) = (x * 256 + y) + bytes_total bs

abbrev pub total : List Row → ℕ
total [] = 0
total (r ∷ rs) = bytes_total (shown_of r) + total rs

-- The sum of words and of rows.
pub record SumLaws : Type 0 where
  pub commutes : (a b : ℕ) → add16 a b ≡ add16 b a
  pub associates : (a b c : ℕ) → a < 65536 → b < 65536 → c < 65536 → add16 (add16 a b) c ≡ add16 a (add16 b c)
  -- a sum goes on where an earlier one ended
  pub goes_on : (a : ℕ) (xs ys : List Row) → sum_rows a (xs ++ ys) ≡ sum_rows (sum_rows a xs) ys
  -- two rows may change places
  pub any_order : (a : ℕ) (x y : Row) (rs : List Row) → a < 65536 → OfBytes x → OfBytes y → sum_rows a (x ∷ y ∷ rs) ≡ sum_rows a (y ∷ x ∷ rs)
  -- it stays a word
  pub fits : (a : ℕ) (rs : List Row) → a < 65536 → AllByRecursion OfBytes rs → sum_rows a rs < 65536
  -- it differs from the plain total by whole carries
  pub carries : (a : ℕ) (rs : List Row) → (k : ℕ) × (sum_rows a rs + 65535 * k ≡ a + total rs)
  -- from 0 it comes to 65,535 just where the plain total is a multiple of 65,535 other than 0
  pub full : (rs : List Row) → sum_rows 0 rs ≡ 65535 → (k : ℕ) × (total rs ≡ 65535 * (k + 1))
  pub full_from : (rs : List Row) (k : ℕ) → AllByRecursion OfBytes rs → total rs ≡ 65535 * (k + 1) → sum_rows 0 rs ≡ 65535

-- An image that is whole, row by row.
pub record WholeImage (rs : List Row) : Type 0 where
  pub rows : (i : ℕ) → i < length rs → (bs : List ℕ) × (slice_index_or rs i blank ≡ written bs)
  pub numbered : version rs ≢ 0
  pub sum : sum_rows 0 rs ≡ 65535

-- What it is that an image stands in a memory with slots of l rows.
pub record Stands (l : ℕ) (rows : List Row) (s : Standing) : Type 0 where
  pub image : WholeImage s.image
  -- it is the first slot's, or the second's where the first is not whole
  pub place : ((s.slot ≡ First) × (s.image ≡ rows_of_slot l 0 rows)) ⊎ ((s.slot ≡ Second) × (s.image ≡ rows_of_slot l l rows) × (WholeImage (rows_of_slot l 0 rows) → ⊥))
  -- it has as many rows as a slot
  pub size : 2 * l ≤ length rows → length s.image ≡ l

-- The loader's choice.
pub record StandingLaws : Type 0 where
  pub whole : (rs : List Row) → Decides (whole rs) (WholeImage rs)
  pub stands : (l : ℕ) (rows : List Row) (s : Standing) → standing l rows ≡ Some s → Stands l rows s
  -- where none stands, neither slot is whole
  pub none : (l : ℕ) (rows : List Row) → standing l rows ≡ None → (WholeImage (rows_of_slot l 0 rows) → ⊥) × (WholeImage (rows_of_slot l l rows) → ⊥)
  -- what the loader answers stands, with that version
  pub loads : (h : Held) (l : ℕ) (i : Image) → loading h l ≡ Ok i → (s : Standing) × (standing l h.rows ≡ Some s) × (i.slot ≡ s.slot) × (i.version ≡ version s.image)
