use Rattle.std.proofs.Common.{◌≡◌, length, map, take}
use Rattle.script.specs.Words.{hex_byte}
use Rattle.reply.proofs.hex_digits.Given as goal

abbrev pub invariant-loop-i : goal.invariant-loop-i
invariant-loop-i l = (take l.i l.digits ≡ map hex_byte (take l.i l.bytes)) × (length l.digits ≡ 64)
