use Rattle.std.proofs.Common.{take, ap, ◌∙◌}
use Rattle.aes.specs.Mac.{mac_by, cmac_tag}
use Rattle.aes.specs.Cipher.{ciphered}
use Rattle.aes.proofs.Examples.{vectors}
use Rattle.aes.proofs.mac.tag_bytes.Goals as goal

pub returns-clause-tag : goal.returns-clause-tag
unfolding cmac_tag
returns-clause-tag c =
    let first = rw c.unwrap.ensures at c.first_chunk.ensures.cases in
    first.same
    ∙ ap (take 8) (c.from-code.ensures ∙ c.mac.ensures ∙ ap (λ keys. mac_by (ciphered keys) c.args.text.now) c.expand.ensures)

pub returns-clause-examples : goal.returns-clause-examples
returns-clause-examples c = vectors
