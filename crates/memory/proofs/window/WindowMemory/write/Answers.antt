use Rattle.std.proofs.Common.{rules}
use Rattle.memory.proofs.Windows.{put_shown-answer, put_shown-after, put_shown-bounded, put_shown-laws, put_beyond-answer, put_beyond-after}
use Rattle.memory.proofs.window.WindowMemory.write.Goals as goal

pub returns-in_err-place-clause-answer : goal.returns-in_err-place-clause-answer
returns-in_err-place-clause-answer g c = let agrees = g.met.M.Memory.agrees c.args.self.now.inner in search (rules, put_beyond-answer)

pub returns-in_err-place-clause-after : goal.returns-in_err-place-clause-after
returns-in_err-place-clause-after g c = let agrees = g.met.M.Memory.agrees c.args.self.now.inner in search (rules, put_beyond-after)

pub returns-clause-answer : goal.returns-clause-answer
returns-clause-answer g c =
    let agrees = g.met.M.Memory.agrees c.args.self.now.inner in
    let placed = c.in_ok-place.ensures in
    search (rules, put_shown-answer g.M.Memory.meaning c.args.self.now)

pub returns-clause-after : goal.returns-clause-after
returns-clause-after g c =
    let agrees = g.met.M.Memory.agrees c.args.self.now.inner in
    let placed = c.in_ok-place.ensures in
    search (rules, put_shown-after g.M.Memory.meaning c.args.self.now)

pub returns-clause-bounded : goal.returns-clause-bounded
returns-clause-bounded g c =
    let agrees = g.met.M.Memory.agrees c.args.self.now.inner in
    let placed = c.in_ok-place.ensures in
    search (rules, put_shown-bounded g.M.Memory.meaning c.args.self.now)

pub returns-clause-laws : goal.returns-clause-laws
returns-clause-laws g c =
    let agrees = g.met.M.Memory.agrees c.args.self.now.inner in
    let placed = c.in_ok-place.ensures in
    search (rules, put_shown-laws g.M.Memory.meaning c.args.self.now)
