use Rattle.std.proofs.Common.{◌∙◌, arith}
use Rattle.std.proofs.lemmas.List.{take_rest}
use Rattle.script.proofs.Readings.{fills_none, fills_more, fills_bad, fills_short, fills_end}
use Rattle.script.proofs.numbers.ArrayU8ROWBYTESFromWord.from_word.Goals as goal

pub loop-at-init : goal.loop-at-init
loop-at-init c = fills_none _ _

pub returns-in_default : goal.returns-in_default
returns-in_default c = fills_short 64 _ _ _ _ c.loop-at.invariant c.in_default.len_below c.loop-at-test.true

pub returns-in_err-at : goal.returns-in_err-at
returns-in_err-at c = rw c.from_residual.ensures (fills_bad 64 _ _ _ _ c.loop-at.invariant c.in-len2-up.len_at_least c.in_err-at.ensures)

pub loop-at-preserved : goal.loop-at-preserved
loop-at-preserved c = fills_more _ _ _ _ _ _ c.loop-at.invariant c.in-len2-up.len_at_least (omega arith) c.in_ok-at.ensures (take_rest _ 2)

pub returns : goal.returns
returns c = c.then_some.ensures ∙ fills_end 64 _ _ _ _ c.loop-at.invariant (omega arith) (omega arith) _ c.is_empty.ensures
