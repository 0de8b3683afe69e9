use Rattle.std.proofs.Common.{ap, ◌∙◌, length-set, arith}
use Rattle.aes.specs.Cipher.{expanded, keys_from}
use Rattle.aes.proofs.Rounds.{keys_step, keys_all, key_list-from}
use Rattle.aes.proofs.cipher.expand.Goals as goal

pub loop-slot-preserved : goal.loop-slot-preserved
loop-slot-preserved c = record {
  eleven = length-set c.loop-slot.keys c.loop-slot.slot-index c.into.result ∙ c.loop-slot.invariant.eleven;
  written =
      keys_step c.loop-slot.slot-index c.loop-slot.constant c.xtime-constant.result c.loop-slot.round_key c.into.result c.next_key-round_key.result c.loop-slot.keys
      (omega arith) c.loop-slot.invariant.eleven c.into.ensures c.xtime-constant.ensures c.next_key-round_key.ensures
      ∙ c.loop-slot.invariant.written;
}

pub returns : goal.returns
unfolding expanded
returns c =
    keys_all c.loop-slot.slot-index c.loop-slot.constant c.loop-slot.round_key c.loop-slot.keys (omega arith) c.loop-slot.invariant.eleven
    ∙ c.loop-slot.invariant.written
    ∙ key_list-from 10 1 c.from-round_key.result
    ∙ ap (keys_from 10 1) c.from-round_key.ensures
