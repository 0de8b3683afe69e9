-- What one row more tells of a slot. Assumes nothing.
use Rattle.std.proofs.Common.{◌≡◌, ◌≢◌, ℕ, suc, ◌+◌, ◌-◌, ◌<◌, ◌≤◌, true, false, ◌&&◌, List, ◌∷◌, length, get_or, take, drop, Ok, refl, ap, sym, ◌∙◌, arith, get_or-take, get_or-drop}
use Rattle.std.proofs.lemmas.List.{drop_more}
use Rattle.std.proofs.lemmas.Bool.Decides.{nat_tests}
use Rattle.base.specs.Numbers.{leading}
use Rattle.memory.specs.declared.RowKind.{RowKind}
use Rattle.memory.specs.declared.RowKind.TheVariants.{Written}
use Rattle.memory.specs.Model.{Row, written, blank, spoilt, Held, shown_of, kind_of, at, reading}
use Rattle.loader.specs.Image.{sum_bytes, sum_rows, is_written, all_written, rows_of_slot, version}

written_by_kind : (r : Row) → kind_of r ≡ Written → is_written r ≡ true
written_by_kind (written bs) e = refl
written_by_kind blank e = cc
written_by_kind spoilt e = cc

unwritten_by_kind : (r : Row) → kind_of r ≢ Written → is_written r ≡ false
unwritten_by_kind (written bs) e = absurd (e refl)
unwritten_by_kind blank e = refl
unwritten_by_kind spoilt e = refl

-- The slot's first row bears the version.
pub version_of_first : (rows : List Row) (f l : ℕ) → 0 < l → version (rows_of_slot l f rows) ≡ leading 8 (shown_of (get_or rows f blank))
version_of_first rows f l some =
    let e : get_or (rows_of_slot l f rows) 0 blank ≡ get_or rows f blank = rw (get_or-take, get_or-drop) (ap (λ i. get_or rows i blank) (omega arith)) in
    ap (λ r. leading 8 (shown_of r)) e

-- What a reading of row k tells that was not refused: of the row, and of the rows from it on up to row n.
pub record Read (h : Held) (k n : ℕ) (bs : List ℕ) (x : RowKind) : Type 0 where
  pub on : h.power ≡ true
  pub shown : bs ≡ shown_of (at h k)
  pub missing : x ≢ Written → all_written (rows_of_slot (n - k) k h.rows) ≡ false
  pub taken : x ≡ Written → all_written (rows_of_slot (n - k) k h.rows) ≡ all_written (rows_of_slot (n - (k + 1)) (k + 1) h.rows)
  pub sum : (a : ℕ) → sum_rows a (rows_of_slot (n - k) k h.rows) ≡ sum_rows (sum_bytes a bs) (rows_of_slot (n - (k + 1)) (k + 1) h.rows)

module _ (h : Held) (k n : ℕ) (below : k < n) (within : n ≤ length h.rows) where
  abbrev rest : List Row
  rest = rows_of_slot (n - (k + 1)) (k + 1) h.rows

  next_row : rows_of_slot (n - k) k h.rows ≡ at h k ∷ rest
  next_row =
      let m : n - k ≡ suc (n - (k + 1)) = omega arith in
      ap (λ l. take l (drop k h.rows)) m ∙ ap (take (suc (n - (k + 1)))) (drop_more h.rows k blank (omega arith))

  pub was_read : (old : List ℕ) (x : RowKind) → Ok x ≡ (reading h k old).0 → Read h k n (reading h k old).1 x
  unfolding reading
  was_read old x e =
      let kind : kind_of (at h k) ≡ x = grind (arith, nat_tests) in
      let shown : (reading h k old).1 ≡ shown_of (at h k) = grind (arith, nat_tests) in
      record {
        on = grind (arith, nat_tests);
        shown = shown;
        missing = λ no. ap all_written next_row ∙ ap (λ b. b && all_written rest) (unwritten_by_kind (at h k) (λ e. no (sym kind ∙ e)));
        taken = λ yes. ap all_written next_row ∙ ap (λ b. b && all_written rest) (written_by_kind (at h k) (kind ∙ yes));
        sum = λ a. ap (sum_rows a) next_row ∙ ap (λ bs. sum_rows (sum_bytes a bs) rest) (sym shown);
      }
