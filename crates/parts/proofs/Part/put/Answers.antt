use Rattle.std.proofs.Common.{rules}
use Rattle.parts.specs.Supply.{becoming}
use Rattle.parts.specs.Part.{meaning_of}
use Rattle.parts.proofs.Calls.{put_refused-answer, put_refused-after, put_part-answer, put_part-after}
use Rattle.parts.proofs.Part.put.Goals as goal

pub returns-in_err-admit-clause-answer : goal.returns-in_err-admit-clause-answer
returns-in_err-admit-clause-answer g c =
    let answer = put_refused-answer (meaning_of g.R.Cell.means g.C.Counter.counted g.C.Counter.limit c.args.self.now) c.args.row (becoming c.args.bytes) c.in_err-admit.field-0.0 c.in_err-admit.ensures in
    search rules

pub returns-in_err-admit-clause-after : goal.returns-in_err-admit-clause-after
returns-in_err-admit-clause-after g c = put_refused-after (meaning_of g.R.Cell.means g.C.Counter.counted g.C.Counter.limit c.args.self.now) c.args.row (becoming c.args.bytes) c.in_err-admit.field-0.0 c.in_err-admit.ensures

pub returns-clause-answer : goal.returns-clause-answer
returns-clause-answer g c = search (rules, put_part-answer g.R.Cell.means g.C.Counter.counted g.C.Counter.limit c.args.self.now)

pub returns-clause-after : goal.returns-clause-after
returns-clause-after g c = search (rules, put_part-after g.R.Cell.means g.C.Counter.counted g.C.Counter.limit c.args.self.now)
