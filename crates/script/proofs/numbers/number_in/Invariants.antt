use Rattle.std.proofs.Common.{◌≤◌}
use Rattle.script.proofs.Readings.{Reads}
use Rattle.script.proofs.numbers.number_in.Given as goal

abbrev pub invariant-loop-byte : goal.invariant-loop-byte
invariant-loop-byte l = (l.n ≤ 18446744073709551615) × Reads l.base 18446744073709551615 l.n l.digits l.byte-index
