use Rattle.std.proofs.Common.{◌≡◌, ◌-◌, ◌++◌, length, take}
use Rattle.aes.proofs.Rounds.{key_list}
use Rattle.aes.proofs.cipher.expand.Given as goal

abbrev pub invariant-loop-slot : goal.invariant-loop-slot
invariant-loop-slot l = record {
  eleven : length l.keys ≡ 11;
  written : take l.slot-index l.keys ++ key_list (11 - l.slot-index) l.constant l.round_key ≡ key_list 11 1 l.initial.round_key;
}
