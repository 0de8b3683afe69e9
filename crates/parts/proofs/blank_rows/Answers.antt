use Rattle.std.proofs.Common.{rules}
use Rattle.std.proofs.lemmas.List.{replicate_more, map_push}
use Rattle.parts.proofs.blank_rows.Goals as goal

pub loop-preserved : goal.loop-preserved
loop-preserved g c = search (rules, replicate_more, map_push)

pub returns : goal.returns
returns g c = search rules
