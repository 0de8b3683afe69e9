use Rattle.std.proofs.Common.{arith, rules}
use Rattle.aes.proofs.Columns.{mixed_is}
use Rattle.aes.proofs.cipher.mixed.Goals as goal

pub returns : goal.returns
returns c =
    mixed_is c.args.column c.from.result c.from-2.result c.from-3.result c.from-4.result (omega arith) (λ i. search rules)
    c.from.ensures c.from-2.ensures c.from-3.ensures c.from-4.ensures
