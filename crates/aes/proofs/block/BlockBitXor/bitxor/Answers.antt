use Rattle.std.proofs.Common.{ap, ◌∙◌}
use Rattle.aes.specs.Cipher.{xored}
use Rattle.aes.specs.Words.{bytes_of}
use Rattle.aes.proofs.Words.{xor_block}
use Rattle.aes.proofs.block.BlockBitXor.bitxor.Goals as goal

pub returns : goal.returns
returns c =
    let s = c.self.inside in
    let o = c.other.inside in
    xor_block s.a s.b s.c s.d o.a o.b o.c o.d ∙ ap (λ x. xored x (bytes_of o)) c.self.view_is ∙ ap (xored c.args.self) c.other.view_is
