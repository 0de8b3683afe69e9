-- A window shows what is put into its rows, and leaves all others. Assumes nothing.
use Rattle.std.proofs.Common.{◌≡◌, ℕ, ◌+◌, ◌-◌, ◌<◌, ◌≤◌, min, List, length, get_or, take, drop, set, Err, Result, sym, refl, ap, ◌∙◌, subst, ⊎_elim, arith, length-drop, length-take, get_or-drop, get_or-take}
use lib.Seq.{take-set-lt, drop-set-add}
use Rattle.std.proofs.lemmas.Bool.Decides.{nat_tests}
use Rattle.base.specs.declared.Case.TheVariants.{NoRow}
use Rattle.base.specs.declared.Layer.TheVariants.{Memory}
use Rattle.base.specs.declared.Fault.{Fault}
use Rattle.base.specs.Faults.{fault_at}
use Rattle.memory.specs.declared.RowKind.{RowKind}
use Rattle.memory.specs.declared.window.Window.{Window}
use Rattle.memory.specs.Model.{Row, blank, Held, Mem, Outcome, at, torn, reading, putting, raising, powering_up}
use Rattle.memory.specs.Laws.{PutLaws, RaiseLaws, SupplyLaws}
use Rattle.memory.specs.View.{view_of, Bounded}
use Rattle.memory.specs.Shown.{shown_held, shown_mem, renumber, Untouched}
use Rattle.memory.proofs.Laws.{put_laws, raise-laws, up_laws}

pub shown-length : (f n : ℕ) (h : Held) → length (shown_held f n h).rows ≡ min n (length h.rows - f)
shown-length f n h = simp (length-take, length-drop)

module _ (f n : ℕ) (h : Held) (i : ℕ) (within : i < length (shown_held f n h).rows) where
  in_window : i < n
  in_window = omega (arith, shown-length f n h)

  in_memory : f + i < length h.rows
  in_memory = omega (arith, shown-length f n h)

  shown-at : at (shown_held f n h) i ≡ at h (f + i)
  shown-at = let b = in_window in rw (get_or-take, get_or-drop)

  shown-set : (x : Row) → take n (drop f (set h.rows (f + i) x)) ≡ set (take n (drop f h.rows)) i x
  shown-set x = let b = in_window in rw (drop-set-add, take-set-lt)

  module _ (area : List ℕ) where
    shown-answer : renumber i (reading h (f + i) area).0 ≡ (reading (shown_held f n h) i area).0
    unfolding reading
    shown-answer = let k = in_memory in let a = shown-at in grind (arith, nat_tests)

    shown_area : (reading h (f + i) area).1 ≡ (reading (shown_held f n h) i area).1
    unfolding reading
    shown_area = let k = in_memory in let a = shown-at in grind (arith, nat_tests)

module _ (f n : ℕ) (m : Mem) (i : ℕ) (within : i < length (shown_held f n m.held).rows) (x : Row) where
  put_answer : renumber i (putting m (f + i) x).0 ≡ (putting (shown_mem f n m) i x).0
  unfolding putting
  put_answer = let k = in_memory f n m.held i within in grind (arith, nat_tests)

  put_after : shown_mem f n (putting m (f + i) x).1 ≡ (putting (shown_mem f n m) i x).1
  unfolding putting
  put_after =
      let k = in_memory f n m.held i within in
      let a = shown-at f n m.held i within in
      let s = shown-set f n m.held i within x in
      let t = shown-set f n m.held i within (torn m.tear (at m.held (f + i)) x) in
      grind (arith, nat_tests)

  put_untouched : Untouched f n m.held (putting m (f + i) x).1.held
  put_untouched =
      let p = put_laws m (f + i) x in
      let b = in_window f n m.held i within in
      record { size = p.size; outside = λ j out. p.others j (⊎_elim (λ l. omega arith) (λ l. omega arith) out) }

-- Rows that are as they were leave all outside the window untouched.
same-untouched : (f n : ℕ) (before after : Held) → after.rows ≡ before.rows → Untouched f n before after
same-untouched f n before after e = record { size = ap length e; outside = λ j out. ap (λ rs. get_or rs j blank) e }

module _ (f n : ℕ) (m : Mem) where
  raise-answer : (raising m).0 ≡ (raising (shown_mem f n m)).0
  unfolding raising
  raise-answer = grind (arith, nat_tests)

  raise-after : shown_mem f n (raising m).1 ≡ (raising (shown_mem f n m)).1
  unfolding raising
  raise-after = grind (arith, nat_tests)

  up_answer : (charge tear : ℕ) → (powering_up m charge tear).0 ≡ (powering_up (shown_mem f n m) charge tear).0
  unfolding powering_up
  up_answer charge tear = grind (arith, nat_tests)

  up_after : (charge tear : ℕ) → shown_mem f n (powering_up m charge tear).1 ≡ (powering_up (shown_mem f n m) charge tear).1
  unfolding powering_up
  up_after charge tear = grind (arith, nat_tests)

put_missing : (m : Mem) (i : ℕ) (x : Row) → length m.held.rows ≤ i → (Err (fault_at NoRow Memory i) ≡ (putting m i x).0) × (m ≡ (putting m i x).1)
unfolding putting
put_missing m i x beyond = (grind (arith, nat_tests), grind (arith, nat_tests))

-- Reading through a window, where it shows the row and where not.
module _ (f n : ℕ) (h : Held) (i : ℕ) where
  pub read_shown-answer : (k : ℕ) (area : List ℕ) (r r' : Result RowKind Fault) → k ≡ f + i → i < length (shown_held f n h).rows → r ≡ (reading h k area).0 → r' ≡ renumber i r → r' ≡ (reading (shown_held f n h) i area).0
  read_shown-answer k area r r' e within answer same = let a = shown-answer f n h i within area in cc

  pub read_shown-area : (k : ℕ) (area after : List ℕ) → k ≡ f + i → i < length (shown_held f n h).rows → after ≡ (reading h k area).1 → after ≡ (reading (shown_held f n h) i area).1
  read_shown-area k area after e within left = let a = shown_area f n h i within area in cc

  pub read_beyond-answer : (area : List ℕ) (e : Fault) → e ≡ fault_at NoRow Memory i → length (shown_held f n h).rows ≤ i → Err e ≡ (reading (shown_held f n h) i area).0
  unfolding reading
  read_beyond-answer area e is beyond = grind (arith, nat_tests)

  pub read_beyond-area : (area : List ℕ) → length (shown_held f n h).rows ≤ i → area ≡ (reading (shown_held f n h) i area).1
  unfolding reading
  read_beyond-area area beyond = grind (arith, nat_tests)

-- A call through a window: r is the answer and the window shows the memory of the outcome o, only its own rows
-- changed, and the laws L of such a call hold.
pub record Did {M : Type 0} (meaning : M → Mem) (before after : Window M) (r : Result (Unit {0}) Fault) (o : Outcome) (L : Outcome → Type 0) : Type 0 where
  pub answer : r ≡ o.0
  pub shown : view_of meaning after ≡ o.1
  pub bounded : Bounded meaning before after
  pub laws : L (r, view_of meaning after)

module _ {M : Type 0} (meaning : M → Mem) (w : Window M) where
  abbrev moved : M → Window M
  moved n = record { inner = n; first = w.first; count = w.count }

  abbrev view : Mem
  view = view_of meaning w

  did : (n : M) (r : Result (Unit {0}) Fault) (o : Outcome) (L : Outcome → Type 0) → r ≡ o.0 → view_of meaning (moved n) ≡ o.1 → Untouched w.first w.count (meaning w.inner).held (meaning n).held → L o → Did meaning w (moved n) r o L
  did n r o L answer shown untouched laws =
      record {
        answer = answer;
        shown = shown;
        bounded = record { first = refl; count = refl; untouched = untouched };
        laws = subst L (ap (λ (a : Result (Unit {0}) Fault). (a, o.1)) (sym answer) ∙ ap (λ (b : Mem). (r, b)) (sym shown)) laws;
      }

  module _ (n : M) (r : Result (Unit {0}) Fault) where
    -- A row that the window shows.
    module _ (h : Held) (i k : ℕ) (x : Row) (s : Result (Unit {0}) Fault) (agrees : h ≡ (meaning w.inner).held) (placed : k ≡ w.first + i) (shows : i < length (shown_held w.first w.count h).rows) (answered : s ≡ (putting (meaning w.inner) k x).0) (same : r ≡ renumber i s) (after : meaning n ≡ (putting (meaning w.inner) k x).1) where
      put_shown : Did meaning w (moved n) r (putting view i x) (PutLaws view i x)
      put_shown =
          let m = meaning w.inner in
          let f = w.first in
          let within : i < length view.held.rows = rw agrees at shows in
          let after' : meaning n ≡ (putting m (f + i) x).1 = after ∙ ap (λ j. (putting m j x).1) placed in
          did n r (putting view i x) (PutLaws view i x)
          (same ∙ ap (renumber i) (answered ∙ ap (λ j. (putting m j x).0) placed) ∙ put_answer f w.count m i within x)
          (ap (shown_mem f w.count) after' ∙ put_after f w.count m i within x)
          (subst (λ (q : Mem). Untouched f w.count m.held q.held) (sym after') (put_untouched f w.count m i within x))
          (put_laws view i x)

      pub put_shown-answer : r ≡ (putting view i x).0
      put_shown-answer = put_shown.answer

      pub put_shown-after : view_of meaning (moved n) ≡ (putting view i x).1
      put_shown-after = put_shown.shown

      pub put_shown-bounded : Bounded meaning w (moved n)
      put_shown-bounded = put_shown.bounded

      pub put_shown-laws : PutLaws view i x (r, view_of meaning (moved n))
      put_shown-laws = put_shown.laws

    module _ (answer : r ≡ (raising (meaning w.inner)).0) (after : meaning n ≡ (raising (meaning w.inner)).1) where
      raise_shown : Did meaning w (moved n) r (raising view) (RaiseLaws view)
      raise_shown =
          let m = meaning w.inner in
          did n r (raising view) (RaiseLaws view)
          (answer ∙ raise-answer w.first w.count m)
          (ap (shown_mem w.first w.count) after ∙ raise-after w.first w.count m)
          (same-untouched w.first w.count m.held (meaning n).held (ap (λ (q : Mem). q.held.rows) after ∙ (raise-laws m).rows))
          (raise-laws view)

      pub raise_shown-answer : r ≡ (raising view).0
      raise_shown-answer = raise_shown.answer

      pub raise_shown-after : view_of meaning (moved n) ≡ (raising view).1
      raise_shown-after = raise_shown.shown

      pub raise_shown-bounded : Bounded meaning w (moved n)
      raise_shown-bounded = raise_shown.bounded

      pub raise_shown-laws : RaiseLaws view (r, view_of meaning (moved n))
      raise_shown-laws = raise_shown.laws

    module _ (charge tear : ℕ) (answer : r ≡ (powering_up (meaning w.inner) charge tear).0) (after : meaning n ≡ (powering_up (meaning w.inner) charge tear).1) where
      up_shown : Did meaning w (moved n) r (powering_up view charge tear) (SupplyLaws view)
      up_shown =
          let m = meaning w.inner in
          did n r (powering_up view charge tear) (SupplyLaws view)
          (answer ∙ up_answer w.first w.count m charge tear)
          (ap (shown_mem w.first w.count) after ∙ up_after w.first w.count m charge tear)
          (same-untouched w.first w.count m.held (meaning n).held (ap (λ (q : Mem). q.held.rows) after ∙ (up_laws m charge tear).rows))
          (up_laws view charge tear)

      pub up_shown-answer : r ≡ (powering_up view charge tear).0
      up_shown-answer = up_shown.answer

      pub up_shown-after : view_of meaning (moved n) ≡ (powering_up view charge tear).1
      up_shown-after = up_shown.shown

      pub up_shown-bounded : Bounded meaning w (moved n)
      up_shown-bounded = up_shown.bounded

      pub up_shown-laws : SupplyLaws view (r, view_of meaning (moved n))
      up_shown-laws = up_shown.laws

  -- A row that the window does not show.
  module _ (h : Held) (i : ℕ) (x : Row) (e : Fault) (agrees : h ≡ (meaning w.inner).held) (is : e ≡ fault_at NoRow Memory i) (beyond : length (shown_held w.first w.count h).rows ≤ i) where
    missing : (Err e ≡ (putting view i x).0) × (view ≡ (putting view i x).1)
    missing =
        let past : length view.held.rows ≤ i = rw agrees at beyond in
        let step : ◌≡◌ {A = Result (Unit {0}) Fault} (Err e) (Err (fault_at NoRow Memory i)) = ap Err is in
        let none = put_missing view i x past in
        (step ∙ none.0, none.1)

    pub put_beyond-answer : Err e ≡ (putting view i x).0
    put_beyond-answer = missing.0

    pub put_beyond-after : view ≡ (putting view i x).1
    put_beyond-after = missing.1
