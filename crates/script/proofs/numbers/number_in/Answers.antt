use Rattle.std.proofs.Common.{sym, arith}
use Rattle.std.proofs.lemmas.Bool.{eqb-false}
use Rattle.script.proofs.Readings.{reads_bad, reads_past, reads_more, reads_end}
use Rattle.script.proofs.numbers.number_in.Goals as goal

pub returns-in_err-digit : goal.returns-in_err-digit
returns-in_err-digit c =
    rw c.from_residual.ensures (reads_bad c.args.base _ c.loop-byte.n c.args.digits.now c.loop-byte.byte-index c.loop-byte.invariant.1 c.loop-byte-test.true c.in_err-digit.ensures.is)

pub returns-in_err-n : goal.returns-in_err-n
returns-in_err-n c =
    rw c.from_residual-in_err-n.ensures (reads_past c.args.base _ c.loop-byte.n c.args.digits.now c.loop-byte.byte-index c.in_ok-digit.field-0 c.loop-byte.invariant.1 c.loop-byte-test.true c.in_ok-digit.ensures.is c.requires c.in_err-n.ensures)

pub loop-byte-preserved : goal.loop-byte-preserved
loop-byte-preserved c =
    reads_more c.args.base _ c.loop-byte.n c.in_ok-n.n c.args.digits.now c.loop-byte.byte-index c.in_ok-digit.field-0 c.loop-byte.invariant.1 c.loop-byte-test.true c.in_ok-digit.ensures.is c.in_ok-n.ensures

pub returns : goal.returns
returns c =
    reads_end c.args.base _ c.loop-byte.n c.args.digits.now c.loop-byte.byte-index c.loop-byte.invariant.1 c.loop-byte.invariant.0 (omega (arith, eqb-false _ 0 (sym c.if-is_empty.ensures))) c.loop-byte-test.false
