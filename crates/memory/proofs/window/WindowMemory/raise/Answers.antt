use Rattle.std.proofs.Common.{rules}
use Rattle.memory.proofs.Windows.{raise_shown-answer, raise_shown-after, raise_shown-bounded, raise_shown-laws}
use Rattle.memory.proofs.window.WindowMemory.raise.Goals as goal

pub returns-clause-answer : goal.returns-clause-answer
returns-clause-answer g c = search (rules, raise_shown-answer)

pub returns-clause-after : goal.returns-clause-after
returns-clause-after g c = search (rules, raise_shown-after)

pub returns-clause-bounded : goal.returns-clause-bounded
returns-clause-bounded g c = search (rules, raise_shown-bounded)

pub returns-clause-laws : goal.returns-clause-laws
returns-clause-laws g c = search (rules, raise_shown-laws)
