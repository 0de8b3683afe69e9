use Rattle.script.proofs.Readings.{Fills}
use Rattle.script.proofs.numbers.ArrayU8ROWBYTESFromWord.from_word.Given as goal

abbrev pub invariant-loop-at : goal.invariant-loop-at
invariant-loop-at l = Fills l.word l.at-items l.digits l.at-index
