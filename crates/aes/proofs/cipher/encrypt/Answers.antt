use Rattle.std.proofs.Common.{[], take, drop, get_or, ap, ◌∙◌}
use Rattle.std.specs.Prelude.{fold}
use Rattle.aes.specs.Cipher.{one_round, last_round, xored}
use Rattle.aes.proofs.Rounds.{ciphered_is}
use Rattle.aes.proofs.cipher.encrypt.Goals as goal

pub returns : goal.returns
returns c =
    let keys = c.args.keys.now in
    let state = c.rounds-state.ensures ∙ ap (λ s. fold one_round s (take 9 (drop 1 keys))) (c.bitxor.ensures ∙ ap (xored c.args.block) c.from.ensures) in
    c.last_round.ensures ∙ ap (λ s. last_round s c.from-2.result) state
    ∙ ap (last_round (fold one_round (xored c.args.block (get_or keys 0 [])) (take 9 (drop 1 keys)))) c.from-2.ensures
    ∙ ciphered_is keys c.args.block c.told-keys
