use Rattle.std.proofs.Common.{◌≡◌, take}
use Rattle.std.specs.Prelude.{fold}
use Rattle.aes.specs.Cipher.{xored, ciphered}
use Rattle.aes.specs.Mac.{zero_block}
use Rattle.aes.proofs.mac.chain.Given as goal

abbrev pub invariant-loop-block : goal.invariant-loop-block
invariant-loop-block l = l.x ≡ fold (λ x block. ciphered l.keys (xored x block)) zero_block (take l.block-index l.blocks)
