-- The laws of a memory's calls. Assumes nothing.
use Rattle.std.proofs.Common.{◌≡◌, ℕ, ◌+◌, true, false, ◌≢◌, ◌⊎◌, length, Ok, Err, refl, inl, inr, arith, length-set, get_or-set_other, get_or-set_same}
use Rattle.std.proofs.lemmas.Bool.{cases_lt}
use Rattle.std.proofs.lemmas.Bool.Decides.{nat_tests}
use Rattle.base.specs.declared.Case.TheVariants.{PowerCut}
use Rattle.base.specs.declared.Layer.TheVariants.{Memory}
use Rattle.base.specs.Faults.{fault_at}
use Rattle.memory.specs.Model.{Row, blank, spoilt, Mem, at, torn, putting, raising, powering_up, switching_off}
use Rattle.memory.specs.Laws.{PutLaws, RaiseLaws, SupplyLaws}

module _ (m : Mem) (i : ℕ) (x : Row) where
  put_size : length (putting m i x).1.held.rows ≡ length m.held.rows
  unfolding putting
  put_size =
      let a = length-set m.held.rows i x in
      let b = length-set m.held.rows i (torn m.tear (at m.held i) x) in
      grind (arith, nat_tests)

  put_count : (putting m i x).1.count ≡ m.count
  unfolding putting
  put_count = grind (arith, nat_tests)

  put_ceiling : (putting m i x).1.ceiling ≡ m.ceiling
  unfolding putting
  put_ceiling = grind (arith, nat_tests)

  put_others : (j : ℕ) → j ≢ i → at (putting m i x).1.held j ≡ at m.held j
  unfolding putting
  put_others j ne =
      let a = get_or-set_other m.held.rows i j x blank ne in
      let b = get_or-set_other m.held.rows i j (torn m.tear (at m.held i) x) blank ne in
      grind (arith, nat_tests)

  put_done : (putting m i x).0 ≡ Ok tt → (at (putting m i x).1.held i ≡ x) × ((putting m i x).1.held.power ≡ true)
  unfolding putting
  put_done e =
      elim (cases_lt i (length m.held.rows)) [
        | inl in-range ↦ (let s = get_or-set_same m.held.rows i x blank in-range in (grind (arith, nat_tests), grind (arith, nat_tests)))
        | inr beyond ↦ absurd (grind (arith, nat_tests))
      ]

  put_cut : (putting m i x).0 ≡ Err (fault_at PowerCut Memory i) → (putting m i x).1.held.power ≡ false
  unfolding putting
  put_cut e = grind (arith, nat_tests)

  put_here : (at (putting m i x).1.held i ≡ at m.held i) ⊎ ((at (putting m i x).1.held i ≡ x) ⊎ (at (putting m i x).1.held i ≡ spoilt))
  unfolding putting
  put_here =
      elim (cases_lt i (length m.held.rows)) [
        | inl in-range ↦ (
            let s = get_or-set_same m.held.rows i x blank in-range in
            let t = get_or-set_same m.held.rows i (torn m.tear (at m.held i) x) blank in-range in
            grind (arith, nat_tests))
        | inr beyond ↦ inl (grind (arith, nat_tests))
      ]

  pub put_laws : PutLaws m i x (putting m i x)
  put_laws = record { size = put_size; count = put_count; ceiling = put_ceiling; others = put_others; here = put_here; done = put_done; cut = put_cut }

module _ (m : Mem) where
  raise-steps : ((raising m).1.count ≡ m.count) ⊎ ((raising m).1.count ≡ m.count + 1)
  unfolding raising
  raise-steps = grind (arith, nat_tests)

  raise-done : (raising m).0 ≡ Ok tt → ((raising m).1.count ≡ m.count + 1) × ((raising m).1.held.power ≡ true)
  unfolding raising
  raise-done e = (grind (arith, nat_tests), grind (arith, nat_tests))

  pub raise-laws : RaiseLaws m (raising m)
  unfolding raising
  raise-laws = record {
    rows = grind (arith, nat_tests);
    ceiling = grind (arith, nat_tests);
    steps = raise-steps;
    done = raise-done;
    cut = λ e. grind (arith, nat_tests);
  }

  pub up_laws : (charge tear : ℕ) → SupplyLaws m (powering_up m charge tear)
  unfolding powering_up
  up_laws charge tear = record { rows = grind (arith, nat_tests); count = grind (arith, nat_tests); ceiling = grind (arith, nat_tests) }

  pub off_laws : SupplyLaws m (Ok tt, switching_off m)
  off_laws = record { rows = refl; count = refl; ceiling = refl }
