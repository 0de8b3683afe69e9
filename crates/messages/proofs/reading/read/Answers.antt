use Rattle.std.proofs.Common.{◌≡◌, arith}
use Rattle.std.proofs.lemmas.Grind.{common_steps}
use Rattle.messages.specs.Codec.{told, reading}
use Rattle.messages.proofs.Trips.{writes_back}
use Rattle.messages.proofs.reading.read.Goals as goal

pub returns-clause-back : goal.returns-clause-back
returns-clause-back c =
    let answer : told c.read_as.result ≡ reading c.args.end c.args.message.now = grind (arith, common_steps) in
    writes_back c.args.end c.args.message.now _ c.type_inv.message answer
