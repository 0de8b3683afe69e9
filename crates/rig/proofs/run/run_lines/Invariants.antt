use Rattle.std.proofs.Common.{vec_items}
use Rattle.script.specs.Text.{lines_of}
use Rattle.rig.specs.Store.{desk_of}
use Rattle.rig.proofs.Lines.{SoFar}
use Rattle.rig.proofs.run.run_lines.Given as goal

abbrev pub invariant-loop-line : goal.invariant-loop-line
invariant-loop-line l =
    SoFar (desk_of l.initial.rig) (lines_of l.script) (vec_items l.initial.out) (vec_items l.out) (desk_of l.rig) (lines_of l.line-iterator)
