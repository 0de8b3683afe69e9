use Rattle.script.proofs.Trips.{laws as lawful, examples as stand}
use Rattle.script.proofs.text.Lines.of.Goals as goal

pub returns-clause-laws : goal.returns-clause-laws
returns-clause-laws c = lawful

pub returns-clause-examples : goal.returns-clause-examples
returns-clause-examples c = stand
