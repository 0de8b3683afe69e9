use Rattle.std.proofs.Common.{◌≡◌, ℕ, false, cond, eqb, List, ◌++◌, length, is_ok, vec_items, ap, ◌∙◌, rules}
use Rattle.rig.specs.Store.{desk_of}
use Rattle.rig.specs.Transcript.{line_done}
use Rattle.rig.proofs.Lines.{anyway, if_printed, text_of_line, line_desk}
use Rattle.rig.proofs.run.run_line.Goals as goal

pub returns-then-is_empty : goal.returns-then-is_empty
unfolding line_done
returns-then-is_empty c = search rules

pub returns : goal.returns
returns c =
    let d = desk_of c.args.rig.now in
    let line = c.args.line.now in
    let old = vec_items c.args.out.now in
    let some : eqb (length line) 0 ≡ false = cc in
    let a = c.in_ok-reply.ensures in
    let e = text_of_line d line some c.parse.result c.parse.ensures _ _ c.name.ensures a.0 in
    let p : vec_items c.print.new.out ≡ cond (is_ok c.print.result) (old ++ (line_done d line).0) old = c.print.ensures ∙ ap (λ (t : List ℕ). cond (is_ok c.print.result) (old ++ t) old) e in
    record {
      printed = if_printed c.print.result old (vec_items c.print.new.out) (line_done d line).0 p;
      leaves = anyway c.print.result (desk_of c.obey.new.rig ≡ (line_done d line).1) (a.1 ∙ line_desk d line some c.parse.result c.parse.ensures);
    }
