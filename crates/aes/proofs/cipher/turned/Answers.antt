use Rattle.std.proofs.Common.{◌*◌, ◌%◌, ◌^◌, ap, ◌∙◌, arith}
use Rattle.std.specs.Prelude.{bit_xor}
use Rattle.aes.specs.Words.{word_bytes}
use Rattle.aes.proofs.Columns.{turned_is}
use Rattle.aes.proofs.cipher.turned.Goals as goal

pub returns : goal.returns
unfolding word_bytes
returns c =
    ap (λ r. word_bytes (bit_xor c.subbed.result (r * 2 ^ 24 % 2 ^ 32))) c.from.ensures
    ∙ turned_is c.args.word c.args.constant c.subbed.result c.to_be_bytes.result (omega arith) c.to_be_bytes.ensures c.subbed.ensures
