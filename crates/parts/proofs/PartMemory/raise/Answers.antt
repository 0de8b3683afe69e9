use Rattle.std.proofs.Common.{rules}
use Rattle.parts.specs.Part.{meaning_of}
use Rattle.parts.proofs.Calls.{raise-refused-answer, raise-refused-after, raise-part-answer, raise-part-after}
use Rattle.parts.proofs.PartMemory.raise.Goals as goal

pub returns-in_err-admit_raise-clause-answer : goal.returns-in_err-admit_raise-clause-answer
returns-in_err-admit_raise-clause-answer g c =
    let answer = raise-refused-answer (meaning_of g.R.Cell.means g.C.Counter.counted g.C.Counter.limit c.args.self.now) c.count.result c.ceiling.result c.in_err-admit_raise.field-0.0 c.count.ensures c.ceiling.ensures c.in_err-admit_raise.ensures in
    search rules

pub returns-in_err-admit_raise-clause-after : goal.returns-in_err-admit_raise-clause-after
returns-in_err-admit_raise-clause-after g c = raise-refused-after (meaning_of g.R.Cell.means g.C.Counter.counted g.C.Counter.limit c.args.self.now) c.count.result c.ceiling.result c.in_err-admit_raise.field-0.0 c.count.ensures c.ceiling.ensures c.in_err-admit_raise.ensures

pub returns-clause-answer : goal.returns-clause-answer
returns-clause-answer g c = raise-part-answer g.R.Cell.means g.C.Counter.counted g.C.Counter.limit c.args.self.now c.count.result c.ceiling.result c.in_ok-admit_raise.field-0 c.step_counter.new.counter c.draw-drawn.result c.draw-drawn.new.self c.map_err.result c.count.ensures c.ceiling.ensures c.in_ok-admit_raise.ensures c.step_counter.ensures c.draw-drawn.ensures.result c.draw-drawn.ensures.after (search rules)

pub returns-clause-after : goal.returns-clause-after
returns-clause-after g c = raise-part-after g.R.Cell.means g.C.Counter.counted g.C.Counter.limit c.args.self.now c.count.result c.ceiling.result c.in_ok-admit_raise.field-0 c.step_counter.new.counter c.draw-drawn.result c.draw-drawn.new.self c.map_err.result c.count.ensures c.ceiling.ensures c.in_ok-admit_raise.ensures c.step_counter.ensures c.draw-drawn.ensures.result c.draw-drawn.ensures.after (search rules)
