use Rattle.std.proofs.Common.{rules}
use Rattle.memory.proofs.Windows.{read_shown-answer, read_shown-area, read_beyond-answer, read_beyond-area}
use Rattle.memory.proofs.window.WindowRows.read.Goals as goal

pub returns-in_err-place-clause-answer : goal.returns-in_err-place-clause-answer
returns-in_err-place-clause-answer g c = search (rules, read_beyond-answer)

pub returns-in_err-place-clause-area : goal.returns-in_err-place-clause-area
returns-in_err-place-clause-area g c = search (rules, read_beyond-area)

pub returns-clause-answer : goal.returns-clause-answer
returns-clause-answer g c =
    let w = c.args.self.now in
    search (rules, read_shown-answer w.first w.count (g.M.Rows.held w.inner))

pub returns-clause-area : goal.returns-clause-area
returns-clause-area g c =
    let w = c.args.self.now in
    search (rules, read_shown-area w.first w.count (g.M.Rows.held w.inner))
