use Rattle.std.proofs.Common.{rules}
use Rattle.std.proofs.iter.runs.Sources.{sums}
use Rattle.cells.proofs.Strips.{sum_zeros, sum_zeros_le}
use Rattle.cells.proofs.counter.StripCounter.count.Goals as goal

pub sum-requires-clause-fits : goal.sum-requires-clause-fits
sum-requires-clause-fits c = let le = sum_zeros_le c.args.self.now.bytes in search (rules, sums, sum_zeros_le)

pub returns : goal.returns
returns c = let e = sum_zeros c.args.self.now.bytes in search (rules, sums)
