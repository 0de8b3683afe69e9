use Rattle.std.proofs.Common.{ℕ, List, ◌++◌, vec_items, ap, ◌∙◌}
use Rattle.script.specs.Text.{lines_of}
use Rattle.rig.specs.Store.{desk_of}
use Rattle.rig.specs.Transcript.{line_done}
use Rattle.rig.proofs.Lines.{one_more, no_more, no_lines}
use Rattle.rig.proofs.run.run_lines.Goals as goal

pub loop-line-preserved : goal.loop-line-preserved
loop-line-preserved c =
    let rest = c.loop-line.line-iterator in
    let done = c.in_ok-run_line.ensures in
    one_more (desk_of c.args.rig.now) (lines_of c.args.script.now) (vec_items c.args.out.now) (vec_items c.loop-line.out) (desk_of c.loop-line.rig) (lines_of rest) c.loop-line.invariant
    c.in-Some.line.now (lines_of c.next.new.self) (vec_items c.run_line.new.out) (desk_of c.run_line.new.rig)
    c.in-Some.ensures.steps.2
    (done.printed ∙ ap (λ (l : List ℕ). vec_items c.loop-line.out ++ (line_done (desk_of c.loop-line.rig) l).0) c.cleaned.ensures)
    (done.leaves ∙ ap (λ (l : List ℕ). (line_done (desk_of c.loop-line.rig) l).1) c.cleaned.ensures)

pub returns-clause-printed : goal.returns-clause-printed
returns-clause-printed c =
    (no_more (desk_of c.args.rig.now) (lines_of c.args.script.now) (vec_items c.args.out.now) (vec_items c.loop-line.out) (desk_of c.loop-line.rig) (lines_of c.loop-line.line-iterator) c.loop-line.invariant (no_lines c.loop-line.line-iterator c.in-None.ensures.steps.0)).0

pub returns-clause-leaves : goal.returns-clause-leaves
returns-clause-leaves c =
    (no_more (desk_of c.args.rig.now) (lines_of c.args.script.now) (vec_items c.args.out.now) (vec_items c.loop-line.out) (desk_of c.loop-line.rig) (lines_of c.loop-line.line-iterator) c.loop-line.invariant (no_lines c.loop-line.line-iterator c.in-None.ensures.steps.0)).1
