use Rattle.std.proofs.Common.{ap, ◌∙◌, arith, rules}
use Rattle.aes.specs.Words.{word_bytes}
use Rattle.aes.proofs.Words.{block_is, joined}
use Rattle.aes.proofs.block.BlockFromArrayU8BLOCKBYTES.from.Goals as goal

pub returns : goal.returns
returns c =
    joined (ap word_bytes c.from_be_bytes.ensures) (ap word_bytes c.from_be_bytes-2.ensures) (ap word_bytes c.from_be_bytes-3.ensures) (ap word_bytes c.from_be_bytes-4.ensures)
    ∙ block_is c.args.bytes c.as_chunks.result.0.now (omega arith) (λ i. search rules) c.as_chunks.ensures.front
