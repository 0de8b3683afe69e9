use Rattle.std.proofs.Common.{◌≡◌, IfOk, vec_items, map, ◌∙◌, rules, tests, arith}
use Rattle.std.specs.List.{filter_map, range_with_len}
use Rattle.std.proofs.lemmas.Result.{IfOk-weaker}
use Rattle.std.proofs.lemmas.Iterator.{items_from_collect, YieldsList-from_range}
use Rattle.std.proofs.lemmas.Iterator.Consumers.{YieldsList-from_filter_map}
use Rattle.memory.specs.Model.{kind_of, probing}
use Rattle.rig.proofs.Probes.{all_kinds}
use Rattle.rig.proofs.work.row_kinds.Goals as goal

pub returns : goal.returns
returns g c =
    let h = g.M.Rows.held c.args.memory.now in
    let n = c.size.result in
    let kinds = all_kinds h n c.size.ensures in
    let probed : IfOk c.collect.result (λ v. vec_items v ≡ filter_map (probing h) (range_with_len 0 n)) =
    items_from_collect _ c.collect.ensures.ran (YieldsList-from_filter_map _ (probing h) (YieldsList-from_range 0 n n (search rules) (omega arith)) c.filter_map.ensures.closure (λ x r q k. search (rules, tests))) in
    IfOk-weaker c.collect.result (λ v. vec_items v ≡ filter_map (probing h) (range_with_len 0 n)) (λ v. vec_items v ≡ map kind_of h.rows) (λ v e. e ∙ kinds) probed
