-- How admitting a row, drawing from the supply and changing a row or the count make up the calls of a memory. Assumes nothing.
use Rattle.std.proofs.Common.{◌≡◌, ℕ, ◌+◌, ◌-◌, ◌<◌, Bool, true, false, cond, eqb, ltb, List, map, length, get_or, set, Ok, Err, vec_items, Result, sym, refl, ap, ◌∙◌, arith}
use Rattle.std.proofs.lemmas.List.{length-map, get_or-map, map-set}
use Rattle.std.proofs.lemmas.Bool.{both_ways, ltb-true, cond-true}
use Rattle.base.specs.declared.Case.TheVariants.{NoRow, PowerOff, PowerCut, CountFull}
use Rattle.base.specs.declared.Layer.TheVariants.{Memory}
use Rattle.base.specs.declared.Fault.{Fault}
use Rattle.base.specs.Faults.{fault_at, fault}
use Rattle.memory.specs.declared.RowKind.{RowKind}
use Rattle.memory.specs.Model.{Row, blank, spoilt, Held, Mem, Outcome, at, kind_of, shown_of, reading, putting, raising, with_row, with_count, with_power, spent}
use Rattle.parts.specs.declared.Part.{Part}
use Rattle.parts.specs.declared.supply.Supply.{Supply}
use Rattle.parts.specs.declared.supply.Tear.{Tear}
use Rattle.parts.specs.declared.supply.Tear.TheVariants.{Old, New, Spoilt}
use Rattle.cells.specs.Strip.{stepped}
use Rattle.parts.specs.Supply.{supply, tear_number, drawing, drawn, admitting_raise, left_row, left_count}
use Rattle.parts.specs.Part.{held_of, meaning_of, admitting}

-- What the caller is told of a change, where f is the fault of a cut.
abbrev cut_told : Result (Unit {0}) Tear → Fault → Result (Unit {0}) Fault
cut_told (Ok _) f = Ok tt
cut_told (Err _) f = Err f

-- Whether a change is admitted, by two tests, and what is done then or else.
abbrev gate : Bool → Bool → Fault → Fault → Result (Unit {0}) Fault
gate a b f g = cond a (cond b (Ok tt) (Err g)) (Err f)

abbrev gated : {T X : Type 0} → Bool → Bool → Fault → Fault → X → Result T Fault × X → Result T Fault × X
gated a b f g x o = cond a (cond b o (Err g, x)) (Err f, x)

-- Ok is no Err.
no_fault : (f : Fault) (u : Unit {0}) → ◌≡◌ {A = Result (Unit {0}) Fault} (Ok u) (Err f) → ⊥
no_fault f u e = let z : ◌≡◌ {A = ℕ} 0 1 = cc in omega arith

-- Equal refusals have equal faults.
same-fault : (f g : Fault) → ◌≡◌ {A = Result (Unit {0}) Fault} (Err f) (Err g) → g ≡ f
same-fault f g e = cc

-- The halves of an outcome.
halves : {X Y : Type 0} (o : X × Y) (r a : X) (b : Y) → o ≡ (a, b) → r ≡ a → (r ≡ o.0) × (b ≡ o.1)
halves {X} {Y} o r a b e is = (is ∙ ap (λ (q : X × Y). q.0) (sym e), ap (λ (q : X × Y). q.1) (sym e))

-- A shut gate hands on its fault and changes nothing.
gate_shut : {T X : Type 0} (a b : Bool) (f g : Fault) (x : X) (o : Result T Fault × X) (h : Fault) → Err h ≡ gate a b f g → gated a b f g x o ≡ (Err h, x)
gate_shut true true f g x o h e = absurd (no_fault h tt (sym e))
gate_shut {T} {X} true false f g x o h e = ap (λ (k : Fault). let r : Result T Fault × X = (Err k, x) in r) (same-fault h g e)
gate_shut {T} {X} false b f g x o h e = ap (λ (k : Fault). let r : Result T Fault × X = (Err k, x) in r) (same-fault h f e)

-- An open gate: both tests came out true.
gate_open : (a b : Bool) (f g : Fault) (u : Unit {0}) → Ok u ≡ gate a b f g → (a ≡ true) × (b ≡ true)
gate_open true true f g u e = (refl, refl)
gate_open true false f g u e = absurd (no_fault g u e)
gate_open false b f g u e = absurd (no_fault f u e)

gate_through : {T X : Type 0} (a b : Bool) (f g : Fault) (x : X) (o : Result T Fault × X) → a ≡ true → b ≡ true → gated a b f g x o ≡ o
gate_through true true f g x o p q = refl
gate_through true false f g x o p q = absurd (both_ways false refl q)
gate_through false b f g x o p q = absurd (both_ways false refl p)

-- A row that is not admitted stays, and all else.
module _ (m : Mem) (i : ℕ) (x : Row) (f : Fault) (e : Err f ≡ admitting m.held i) where
  put_refused : (Err f ≡ (putting m i x).0) × (m ≡ (putting m i x).1)
  unfolding putting
  put_refused =
      halves (putting m i x) (Err f) (Err f) m (gate_shut (ltb i (length m.held.rows)) m.held.power (fault_at NoRow Memory i) (fault_at PowerOff Memory i) m _ f e) refl

  pub put_refused-answer : Err f ≡ (putting m i x).0
  put_refused-answer = put_refused.0

  pub put_refused-after : m ≡ (putting m i x).1
  put_refused-after = put_refused.1

-- A row that is admitted is one of the rows, and power is on.
pub admitted : (h : Held) (i : ℕ) (u : Unit {0}) → Ok u ≡ admitting h i → (ltb i (length h.rows) ≡ true) × (h.power ≡ true)
admitted h i u e = gate_open (ltb i (length h.rows)) h.power (fault_at NoRow Memory i) (fault_at PowerOff Memory i) u e

-- So the row stands in the table.
pub inside : {R C : Type 0} (means : R → Row) (p : Part R C) (i : ℕ) (u : Unit {0}) → Ok u ≡ admitting (held_of means p) i → i < length (vec_items p.cells)
inside means p i u e =
    let lt : i < length (map means (vec_items p.cells)) = ltb-true i (length (map means (vec_items p.cells))) (admitted (held_of means p) i u e).0 in
    rw length-map at lt

-- The memory that rows, a count with its ceiling and a supply make.
abbrev mem : List Row → ℕ → ℕ → Supply → Mem
mem rows n top s = record { held = record { rows = rows; power = s.power }; count = n; ceiling = top; charge = s.charge; tear = tear_number s.tear }

-- With and without charge, by tear.
abbrev drawing_by : Bool → Tear → Result (Unit {0}) Tear
drawing_by none t = cond none (Err t) (Ok tt)

abbrev drawn_by : Bool → Supply → Supply
drawn_by none s = cond none (supply false s.charge s.tear) (supply s.power (s.charge - 1) s.tear)

put_by : (rows : List Row) (n top : ℕ) (power : Bool) (charge : ℕ) (t : Tear) (i : ℕ) (x : Row) (none : Bool) → let m = mem rows n top (supply power charge t) in ◌≡◌ {A = Outcome} (cond none (Err (fault_at PowerCut Memory i), with_power (with_row m i (cond (eqb (tear_number t) 0) (at m.held i) (cond (eqb (tear_number t) 1) x spoilt))) false) (Ok tt, spent (with_row m i x))) (cut_told (drawing_by none t) (fault_at PowerCut Memory i), mem (set rows i (left_row (drawing_by none t) (get_or rows i blank) x)) n top (drawn_by none (supply power charge t)))
put_by rows n top power charge Old i x true = refl
put_by rows n top power charge New i x true = refl
put_by rows n top power charge Spoilt i x true = refl
put_by rows n top power charge t i x false = refl

-- A row that is admitted becomes what the supply makes of it.
put_admitted : (rows : List Row) (n top : ℕ) (s : Supply) (i : ℕ) (x : Row) (u : Unit {0}) → let m = mem rows n top s in Ok u ≡ admitting m.held i → putting m i x ≡ (cut_told (drawing s) (fault_at PowerCut Memory i), mem (set rows i (left_row (drawing s) (get_or rows i blank) x)) n top (drawn s))
unfolding putting
put_admitted rows n top s i x u e =
    let m = mem rows n top s in
    let both = admitted m.held i u e in
    gate_through (ltb i (length rows)) s.power (fault_at NoRow Memory i) (fault_at PowerOff Memory i) m _ both.0 both.1
    ∙ put_by rows n top s.power s.charge s.tear i x (eqb s.charge 0)

-- The row that was lent, in the list of what the rows mean.
pub row_means : {R : Type 0} (means : R → Row) (xs : List R) (i : ℕ) (old : R) → i < length xs → old ≡ get_or xs i old → get_or (map means xs) i blank ≡ means old
row_means means xs i old lt is = get_or-map means xs i old blank lt ∙ ap means (sym is)

-- Changing that row changes its place in the list alone.
row-changed : {R : Type 0} (means : R → Row) (xs : List R) (i : ℕ) (old w : R) (d : Result (Unit {0}) Tear) (x : Row) → i < length xs → old ≡ get_or xs i old → means w ≡ left_row d (means old) x → map means (set xs i w) ≡ set (map means xs) i (left_row d (get_or (map means xs) i blank) x)
row-changed means xs i old w d x lt is e =
    let was = row_means means xs i old lt is in
    map-set means xs i w ∙ ap (λ (y : Row). set (map means xs) i y) (e ∙ ap (λ (o : Row). left_row d o x) (sym was))

-- What a part answers to a change, and what it means then.
module _ {R C : Type 0} (means : R → Row) (counted : C → ℕ) (limit : ℕ) (p : Part R C) (i : ℕ) (x : Row) (u : Unit {0}) (old w : R) (d : Result (Unit {0}) Tear) (s : Supply) (r : Result (Unit {0}) Fault) (admits : Ok u ≡ admitting (held_of means p) i) (is : old ≡ get_or (vec_items p.cells) i old) (e : means w ≡ left_row d (means old) x) (d-is : d ≡ drawing p.supply) (s-is : s ≡ drawn p.supply) (told : r ≡ cut_told d (fault_at PowerCut Memory i)) where
  put_part : (r ≡ (putting (meaning_of means counted limit p) i x).0) × (◌≡◌ {A = Mem} (mem (map means (set (vec_items p.cells) i w)) (counted p.counter) limit s) (putting (meaning_of means counted limit p) i x).1)
  put_part =
      let put = put_admitted (map means (vec_items p.cells)) (counted p.counter) limit p.supply i x u admits in
      let rows = row-changed means (vec_items p.cells) i old w d x (inside means p i u admits) is e in
      halves (putting (meaning_of means counted limit p) i x) r (cut_told d (fault_at PowerCut Memory i)) _ (cc) told

  pub put_part-answer : r ≡ (putting (meaning_of means counted limit p) i x).0
  put_part-answer = put_part.0

  pub put_part-after : ◌≡◌ {A = Mem} (mem (map means (set (vec_items p.cells) i w)) (counted p.counter) limit s) (putting (meaning_of means counted limit p) i x).1
  put_part-after = put_part.1

-- A row that is not admitted is not read.
module _ (h : Held) (i : ℕ) (area : List ℕ) (f : Fault) (e : Err f ≡ admitting h i) where
  read-refused : (Err f ≡ (reading h i area).0) × (area ≡ (reading h i area).1)
  unfolding reading
  read-refused =
      halves (reading h i area) (Err f) (Err f) area (gate_shut (ltb i (length h.rows)) h.power (fault_at NoRow Memory i) (fault_at PowerOff Memory i) area _ f e) refl

  pub read-refused-answer : Err f ≡ (reading h i area).0
  read-refused-answer = read-refused.0

  pub read-refused-area : area ≡ (reading h i area).1
  read-refused-area = read-refused.1

-- What a part answers to a reading, and what the area holds then.
module _ {R C : Type 0} (means : R → Row) (p : Part R C) (i : ℕ) (area : List ℕ) (u : Unit {0}) (old : R) (k : RowKind) (shown : List ℕ) (admits : Ok u ≡ admitting (held_of means p) i) (is : old ≡ get_or (vec_items p.cells) i old) (kind-is : k ≡ kind_of (means old)) (shown-is : shown ≡ shown_of (means old)) where
  read-part : (◌≡◌ {A = Result RowKind Fault} (Ok k) (reading (held_of means p) i area).0) × (shown ≡ (reading (held_of means p) i area).1)
  unfolding reading
  read-part =
      let both = admitted (held_of means p) i u admits in
      let was = row_means means (vec_items p.cells) i old (inside means p i u admits) is in
      let through : reading (held_of means p) i area ≡ (Ok (kind_of (at (held_of means p) i)), shown_of (at (held_of means p) i)) =
      gate_through (ltb i (length (held_of means p).rows)) p.supply.power (fault_at NoRow Memory i) (fault_at PowerOff Memory i) area _ both.0 both.1 in
      halves (reading (held_of means p) i area) (Ok k) (Ok k) shown (cc) refl

  pub read-part-answer : ◌≡◌ {A = Result RowKind Fault} (Ok k) (reading (held_of means p) i area).0
  read-part-answer = read-part.0

  pub read-part-area : shown ≡ (reading (held_of means p) i area).1
  read-part-area = read-part.1

-- Raising with and without charge, by tear.
raise-by : (rows : List Row) (n top : ℕ) (power : Bool) (charge : ℕ) (t : Tear) (none : Bool) → let m = mem rows n top (supply power charge t) in ◌≡◌ {A = Outcome} (cond none (Err (fault PowerCut Memory), with_power (with_count m (cond (eqb (tear_number t) 1) (n + 1) n)) false) (Ok tt, spent (with_count m (n + 1)))) (cut_told (drawing_by none t) (fault PowerCut Memory), mem rows (left_count (drawing_by none t) n (n + 1)) top (drawn_by none (supply power charge t)))
raise-by rows n top power charge Old true = refl
raise-by rows n top power charge New true = refl
raise-by rows n top power charge Spoilt true = refl
raise-by rows n top power charge t false = refl

-- A count that may not rise stays, and all else.
module _ (m : Mem) (n top : ℕ) (f : Fault) (n-is : n ≡ m.count) (top-is : top ≡ m.ceiling) (e : Err f ≡ admitting_raise m.held.power n top) where
  raise-refused : (Err f ≡ (raising m).0) × (m ≡ (raising m).1)
  unfolding raising
  raise-refused =
      halves (raising m) (Err f) (Err f) m (gate_shut m.held.power (ltb m.count m.ceiling) (fault PowerOff Memory) (fault CountFull Memory) m _ f (rw (n-is, top-is) at e)) refl

  pub raise-refused-answer : Err f ≡ (raising m).0
  raise-refused-answer = raise-refused.0

  pub raise-refused-after : m ≡ (raising m).1
  raise-refused-after = raise-refused.1

-- A count that may rise becomes what the supply makes of it.
raise_through : (rows : List Row) (n top : ℕ) (s : Supply) (u : Unit {0}) → Ok u ≡ admitting_raise s.power n top → raising (mem rows n top s) ≡ (cut_told (drawing s) (fault PowerCut Memory), mem rows (left_count (drawing s) n (n + 1)) top (drawn s))
unfolding raising
raise_through rows n top s u e =
    let both = gate_open s.power (ltb n top) (fault PowerOff Memory) (fault CountFull Memory) u e in
    gate_through s.power (ltb n top) (fault PowerOff Memory) (fault CountFull Memory) (mem rows n top s) _ both.0 both.1
    ∙ raise-by rows n top s.power s.charge s.tear (eqb s.charge 0)

-- What a part answers to a raising, and what it means then.
module _ {R C : Type 0} (means : R → Row) (counted : C → ℕ) (limit : ℕ) (p : Part R C) (n top : ℕ) (u : Unit {0}) (w : C) (d : Result (Unit {0}) Tear) (s : Supply) (r : Result (Unit {0}) Fault) (n-is : n ≡ counted p.counter) (top-is : top ≡ limit) (admits : Ok u ≡ admitting_raise p.supply.power n top) (e : counted w ≡ left_count d (counted p.counter) (stepped limit (counted p.counter))) (d-is : d ≡ drawing p.supply) (s-is : s ≡ drawn p.supply) (told : r ≡ cut_told d (fault PowerCut Memory)) where
  raise-part : (r ≡ (raising (meaning_of means counted limit p)).0) × (◌≡◌ {A = Mem} (mem (map means (vec_items p.cells)) (counted w) limit s) (raising (meaning_of means counted limit p)).1)
  raise-part =
      let may : Ok u ≡ admitting_raise p.supply.power (counted p.counter) limit = rw (n-is, top-is) at admits in
      let up = raise_through (map means (vec_items p.cells)) (counted p.counter) limit p.supply u may in
      let next = cond-true (ltb (counted p.counter) limit) (counted p.counter + 1) (counted p.counter) (gate_open p.supply.power (ltb (counted p.counter) limit) (fault PowerOff Memory) (fault CountFull Memory) u may).1 in
      halves (raising (meaning_of means counted limit p)) r (cut_told d (fault PowerCut Memory)) _ (cc) told

  pub raise-part-answer : r ≡ (raising (meaning_of means counted limit p)).0
  raise-part-answer = raise-part.0

  pub raise-part-after : ◌≡◌ {A = Mem} (mem (map means (vec_items p.cells)) (counted w) limit s) (raising (meaning_of means counted limit p)).1
  raise-part-after = raise-part.1
