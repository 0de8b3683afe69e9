use Rattle.std.proofs.Common.{rules}
use Rattle.memory.proofs.Windows.{up_shown-answer, up_shown-after, up_shown-bounded, up_shown-laws}
use Rattle.memory.proofs.window.WindowMemory.power_up.Goals as goal

pub returns-clause-answer : goal.returns-clause-answer
returns-clause-answer g c = search (rules, up_shown-answer)

pub returns-clause-after : goal.returns-clause-after
returns-clause-after g c = search (rules, up_shown-after)

pub returns-clause-bounded : goal.returns-clause-bounded
returns-clause-bounded g c = search (rules, up_shown-bounded)

pub returns-clause-laws : goal.returns-clause-laws
returns-clause-laws g c = search (rules, up_shown-laws)
