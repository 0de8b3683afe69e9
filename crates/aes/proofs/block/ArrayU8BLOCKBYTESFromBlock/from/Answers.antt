use Rattle.std.proofs.Common.{rules}
use Rattle.aes.specs.Words.{word_bytes}
use Rattle.aes.proofs.block.ArrayU8BLOCKBYTESFromBlock.from.Goals as goal

pub returns : goal.returns
unfolding word_bytes
returns c = search rules
