use Rattle.std.proofs.Common.{rules}
use Rattle.cells.proofs.Strips.{masked, stays}
use Rattle.cells.proofs.counter.next_cleared.Goals as goal

pub returns-then-place-lt-STRIP_BYTES : goal.returns-then-place-lt-STRIP_BYTES
returns-then-place-lt-STRIP_BYTES c = search (rules, masked)

pub returns-else-place-lt-STRIP_BYTES : goal.returns-else-place-lt-STRIP_BYTES
returns-else-place-lt-STRIP_BYTES c = search (rules, stays)
