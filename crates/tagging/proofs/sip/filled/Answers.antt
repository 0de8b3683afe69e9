use Rattle.std.proofs.Common.{◌≡◌, ℕ, ◌*◌, ◌%◌, ◌^◌, ◌<◌, get_or, ap, ◌∙◌, arith, rules}
use Rattle.std.proofs.iter.runs.Made.{chains}
use Rattle.std.specs.Prelude.{bit_or, fold, reverse}
use Rattle.tagging.proofs.Numbers.{number-is, low-filled}
use Rattle.tagging.proofs.sip.filled.Goals as goal

pub returns : goal.returns
returns c =
    let folded : c.fold-number.result ≡ fold (λ n byte. bit_or (n * 2 ^ 8 % 2 ^ 64) byte) 0 (reverse c.args.rest.now) = search (rules, chains) in
    let bytes : (i : ℕ) → get_or c.args.rest.now i 0 < 256 = λ i. omega (arith, c.type_inv.rest i) in
    ap (λ n. bit_or n (c.args.size * 2 ^ 56 % 2 ^ 64)) (folded ∙ number-is c.args.rest.now bytes c.requires) ∙ low-filled c.args.rest.now c.args.size bytes c.requires
