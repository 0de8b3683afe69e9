-- What the loader's choice means. Assumes nothing.
use Rattle.std.proofs.Common.{◌≡◌, ℕ, ◌+◌, ◌≤◌, Bool, true, false, cond, not, List, length, Some, None, Ok, Err, Decides, Option, refl, subst, inl, inr, arith, length-take, length-drop}
use Rattle.std.proofs.lemmas.Bool.{false≢true}
use Rattle.std.proofs.lemmas.Bool.Decides.{Decides-eqb, Decides-not, Decides-and, Decides-by_and, not_from_Decides}
use Rattle.std.proofs.lemmas.List.Elements.{All-get_or, All-from_get_or}
use Rattle.std.specs.Prelude.{All, ◌==◌, ◌≢◌}
use Rattle.base.specs.declared.Case.TheVariants.{BadShape, PowerOff}
use Rattle.base.specs.declared.Layer.TheVariants.{Memory, Loader}
use Rattle.base.specs.declared.Fault.{Fault}
use Rattle.base.specs.Faults.{fault_at, fault}
use Rattle.memory.specs.Model.{Row, written, blank, spoilt, Held}
use Rattle.loader.specs.declared.Slot.TheVariants.{First, Second}
use Rattle.loader.specs.declared.Image.{Image}
use Rattle.loader.specs.Image.{sum_rows, is_written, all_written, version, whole_by, whole, rows_of_slot, Standing, standing, shaped, answered, loading}
use Rattle.loader.specs.Laws.{WholeImage, Stands, StandingLaws}

abbrev IsWritten : Row → Type 0
IsWritten r = (bs : List ℕ) × (r ≡ written bs)

written_tells : (r : Row) → Decides (is_written r) (IsWritten r)
written_tells (written bs) = (λ _. (bs, refl), λ _. refl)
written_tells blank = (λ e. absurd (false≢true e), λ w. let e : blank ≡ written w.0 = w.1 in cc)
written_tells spoilt = (λ e. absurd (false≢true e), λ w. let e : spoilt ≡ written w.0 = w.1 in cc)

pub whole_tells : (rs : List Row) → Decides (whole rs) (WholeImage rs)
whole_tells rs =
    let rows : Decides (all_written rs) (All IsWritten rs) = Decides-by_and is_written IsWritten all_written written_tells refl (λ _ _. refl) rs in
    let numbered : Decides (not (version rs == 0)) (version rs ≢ 0) = Decides-not _ (Decides-eqb (version rs) 0) in
    let by : Decides (whole_by (version rs) (sum_rows 0 rs)) ((version rs ≢ 0) × (sum_rows 0 rs ≡ 65535)) = Decides-and _ _ numbered (Decides-eqb (sum_rows 0 rs) 65535) in
    let both : Decides (whole rs) (All IsWritten rs × ((version rs ≢ 0) × (sum_rows 0 rs ≡ 65535))) = Decides-and _ _ rows by in (
      λ e. let w = both.0 e in record { rows = λ i below. All-get_or IsWritten rs i blank below w.0; numbered = w.1.0; sum = w.1.1 },
      λ w. both.1 (All-from_get_or IsWritten rs blank w.rows, (w.numbered, w.sum)),
    )

not_whole : (rs : List Row) → whole rs ≡ false → WholeImage rs → ⊥
not_whole rs = not_from_Decides (whole rs) (whole_tells rs)

-- The choice between two slots of l rows, by whether each is whole.
module _ (l : ℕ) (rows : List Row) where
  abbrev one : Standing
  one = record { slot = First; image = rows_of_slot l 0 rows }

  abbrev two : Standing
  two = record { slot = Second; image = rows_of_slot l l rows }

  abbrev choice : Bool → Bool → Option Standing
  choice x y = cond x (Some one) (cond y (Some two) None)

  slot-size : (f : ℕ) → f + l ≤ length rows → length (rows_of_slot l f rows) ≡ l
  slot-size f within = simp (length-take, length-drop) (omega arith)

  one-stands : whole one.image ≡ true → Stands l rows one
  one-stands e = record { image = (whole_tells one.image).0 e; place = inl (refl, refl); size = λ fit. slot-size 0 (omega arith) }

  two-stands : whole one.image ≡ false → whole two.image ≡ true → Stands l rows two
  two-stands n e = record { image = (whole_tells two.image).0 e; place = inr (refl, refl, not_whole one.image n); size = λ fit. slot-size l (omega arith) }

  chosen : (x y : Bool) → whole one.image ≡ x → whole two.image ≡ y → (s : Standing) → choice x y ≡ Some s → Stands l rows s
  chosen true y p q s e = let same : one ≡ s = cc in subst (Stands l rows) same (one-stands p)
  chosen false true p q s e = let same : two ≡ s = cc in subst (Stands l rows) same (two-stands p q)
  chosen false false p q s e = cc

  refused : (x y : Bool) → whole one.image ≡ x → whole two.image ≡ y → choice x y ≡ None → (WholeImage one.image → ⊥) × (WholeImage two.image → ⊥)
  refused true y p q e = cc
  refused false true p q e = cc
  refused false false p q e = (not_whole one.image p, not_whole two.image q)

  pub standing-stands : (s : Standing) → standing l rows ≡ Some s → Stands l rows s
  standing-stands s e = chosen (whole one.image) (whole two.image) refl refl s e

  pub standing-none : standing l rows ≡ None → (WholeImage (rows_of_slot l 0 rows) → ⊥) × (WholeImage (rows_of_slot l l rows) → ⊥)
  standing-none e = refused (whole one.image) (whole two.image) refl refl e

-- Only what stands is answered, where shape and power let it.
only-standing : (p q : Bool) (o : Option Standing) (f g : Fault) (i : Image) → cond p (cond q (answered o) (Err f)) (Err g) ≡ Ok i → (s : Standing) × (o ≡ Some s) × (i.slot ≡ s.slot) × (i.version ≡ version s.image)
only-standing true true (Some s) f g i e = (s, refl, cc, cc)
only-standing true true None f g i e = cc
only-standing true false o f g i e = cc
only-standing false q o f g i e = cc

pub loading-stands : (h : Held) (l : ℕ) (i : Image) → loading h l ≡ Ok i → (s : Standing) × (standing l h.rows ≡ Some s) × (i.slot ≡ s.slot) × (i.version ≡ version s.image)
unfolding loading
loading-stands h l i e = only-standing (shaped l (length h.rows)) h.power (standing l h.rows) (fault_at PowerOff Memory 0) (fault BadShape Loader) i e

pub standing_laws : StandingLaws
standing_laws = record { whole = whole_tells; stands = standing-stands; none = standing-none; loads = loading-stands }
