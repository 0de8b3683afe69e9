use Rattle.std.proofs.Common.{ap, ◌∙◌, arith, rules}
use Rattle.aes.specs.Words.{word_bytes}
use Rattle.aes.proofs.Columns.{subbed_is}
use Rattle.aes.proofs.cipher.subbed.Goals as goal

pub returns : goal.returns
returns c =
    ap word_bytes c.from_be_bytes.ensures
    ∙ subbed_is c.args.column c.from.result c.from-2.result c.from-3.result c.from-4.result (omega arith) (λ i. search rules)
    c.from.ensures c.from-2.ensures c.from-3.ensures c.from-4.ensures
