use Rattle.std.proofs.Common.{◌≡◌, ◌/◌, ◌∙◌}
use Rattle.aes.specs.Cipher.{ciphered}
use Rattle.aes.specs.Mac.{mac_by, chained, zero_block}
use Rattle.aes.proofs.Macs.{front_chained}
use Rattle.aes.proofs.mac.mac.Goals as goal

pub returns : goal.returns
unfolding mac_by
returns c =
    let text = c.args.text.now in
    let before = c.saturating_sub-before.result / 16 in
    let cipher = ciphered c.args.keys.now in
    let x : c.chain-x.result ≡ chained cipher before zero_block text =
    c.chain-x.ensures
    ∙ front_chained cipher before zero_block text c.split_at.result.0.now c.as_chunks.result.0.now c.as_chunks.ensures.front c.split_at.ensures.front c.split_at.ensures.front_len in
    let last = c.split_at.ensures.back in
    cc
