use Rattle.std.proofs.Common.{sym, ◌∙◌, subst, rules}
use Rattle.std.specs.Fmt.{WritesOnOk}
use Rattle.std.specs.Str.{IsUtf8}
use Rattle.reply.proofs.Digits.{flat}
use Rattle.reply.proofs.HexDisplay.fmt.Goals as goal

pub unwrap-requires : goal.unwrap-requires
unwrap-requires g c =
    let text = flat _ _ _ c.hex_digits-digits.ensures.digits c.as_flattened.ensures.value in
    let utf8 : IsUtf8 c.as_flattened.result.now = subst IsUtf8 (sym text) c.hex_digits-digits.ensures.text in
    search (rules, utf8)

pub returns-clause-writes : goal.returns-clause-writes
returns-clause-writes g c =
    let text = flat _ _ _ c.hex_digits-digits.ensures.digits c.as_flattened.ensures.value in
    subst (λ s. WritesOnOk g.W.Write.write_str_gives c.args.f.now c.write_str.result s c.write_str.new.self) (search (rules, c.from_utf8.ensures.cases, c.unwrap.ensures) ∙ text) c.write_str.ensures.writes
