use Rattle.std.proofs.Common.{replicate, ap, ◌∙◌}
use Rattle.aes.proofs.Macs.{padded_is}
use Rattle.aes.proofs.mac.padded.Goals as goal

pub returns : goal.returns
returns c =
    c.from.ensures
    ∙ padded_is c.args.rest.now c.copy_from_slice.new.self c.fill.new.self c.requires c.copy_from_slice.ensures.after
    (c.fill.ensures.after (λ _ e. e) ∙ ap (λ n. replicate n 0) c.told-spare)
