use Rattle.std.proofs.Common.{sym, arith, rules}
use Rattle.std.proofs.lemmas.Bool.{eqb-false}
use Rattle.script.proofs.Splits.{line_found}
use Rattle.script.proofs.text.LinesIterator.next.Goals as goal

pub returns-clause-steps : goal.returns-clause-steps
returns-clause-steps c =
    let some = eqb-false _ 0 (sym c.if-is_empty.ensures) in
    rw (← c.self.view_is) (line_found c.self.inside.rest.now c.cut.result.0 c.cut.result.1 c.unwrap_or_default-self-inside.result (omega arith) (search rules) (search rules) (search rules))
