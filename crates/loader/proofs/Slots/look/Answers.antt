use Rattle.std.proofs.Common.{sym, ◌∙◌, arith, rules}
use Rattle.std.proofs.lemmas.Bool.Decides.{nat_tests}
use Rattle.memory.specs.Model.{reading}
use Rattle.loader.proofs.SlotRows.{version_of_first, was_read}
use Rattle.loader.proofs.Slots.look.Goals as goal
use Rattle.loader.proofs.Slots.look.Goals.{then-row-first, else-row-first}

pub returns-in_err-read : goal.returns-in_err-read
unfolding reading
returns-in_err-read g c = search rules

pub returns-in_default : goal.returns-in_default
returns-in_default g c =
    let read = was_read _ _ _ c.loop-row-test.true (omega arith) _ _ c.in_ok-read.ensures.answer in
    let on = read.on in
    let none = sym c.loop-row.invariant.written ∙ read.missing c.in_default.not-Written in
    grind (arith, nat_tests)

pub loop-row-preserved : goal.loop-row-preserved
loop-row-preserved g c =
    let read = was_read _ _ _ c.loop-row-test.true (omega arith) _ _ c.in_ok-read.ensures.answer in
    let sum = read.sum c.loop-row.sum in
    let shown = read.shown in
    let numbered = version_of_first (g.R.Rows.held c.args.self.now.rows.now).rows c.first_row-first.result c.args.self.now.slot_rows c.args.self.now.some in
    record {
      written = sym (read.taken c.in-Written.is) ∙ c.loop-row.invariant.written;
      sum = cc;
      version = λ _. (read.on, elim c.if-row-first.branch [ then-row-first w ↦ cc | else-row-first w ↦ w.version-is ∙ (c.loop-row.invariant.version (omega (arith, w.if-row-first.false))).1 ]);
    }
