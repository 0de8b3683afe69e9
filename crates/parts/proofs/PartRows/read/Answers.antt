use Rattle.std.proofs.Common.{rules}
use Rattle.parts.specs.Part.{held_of}
use Rattle.parts.proofs.Calls.{read-refused-answer, read-refused-area, read-part-answer, read-part-area}
use Rattle.parts.proofs.PartRows.read.Goals as goal

pub returns-in_err-admit-clause-answer : goal.returns-in_err-admit-clause-answer
returns-in_err-admit-clause-answer g c =
    let answer = read-refused-answer (held_of g.R.Cell.means c.args.self.now) c.args.row c.args.area.now c.in_err-admit.field-0.0 c.in_err-admit.ensures in
    search rules

pub returns-in_err-admit-clause-area : goal.returns-in_err-admit-clause-area
returns-in_err-admit-clause-area g c = read-refused-area (held_of g.R.Cell.means c.args.self.now) c.args.row c.args.area.now c.in_err-admit.field-0.0 c.in_err-admit.ensures

pub returns-clause-answer : goal.returns-clause-answer
returns-clause-answer g c = search (rules, read-part-answer g.R.Cell.means c.args.self.now c.args.row c.args.area.now c.in_ok-admit.field-0)

pub returns-clause-area : goal.returns-clause-area
returns-clause-area g c = search (rules, read-part-area g.R.Cell.means c.args.self.now c.args.row c.args.area.now c.in_ok-admit.field-0)
