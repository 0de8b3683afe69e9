use Rattle.std.proofs.Common.{◌≡◌, [], ◌∷◌, ◌++◌, map, take, sym, ap, ◌∙◌, rules, arith}
use Rattle.std.proofs.lemmas.List.{take_more, take_more_set, map-append}
use Rattle.std.proofs.Math.Seq.{take-length}
use Rattle.std.proofs.lemmas.Str.{IsUtf8-from_ascii}
use Rattle.script.specs.Words.{hex_byte, hex_text}
use Rattle.reply.proofs.Digits.{ascii}
use Rattle.reply.proofs.hex_digits.Goals as goal

pub loop-i-preserved : goal.loop-i-preserved
loop-i-preserved c =
    let i = c.loop-i.i in
    let bytes = c.args.bytes.now in
    let before = c.loop-i.invariant in (
      take_more_set c.loop-i.digits i c.hex_byte.result (omega (arith, before.1))
          ∙ ap (λ xs. xs ++ c.hex_byte.result ∷ []) before.0
          ∙ ap (λ y. map hex_byte (take i bytes) ++ y ∷ []) c.hex_byte.ensures
          ∙ sym (ap (map hex_byte) (take_more bytes i 0 (omega arith)) ∙ map-append hex_byte (take i bytes) _),
      search (rules, before.1),
    )

pub returns-clause-digits : goal.returns-clause-digits
returns-clause-digits c =
    let before = c.loop-i.invariant in
    let all : c.loop-i.i ≡ 64 = omega arith in
    sym (ap (λ n. take n c.loop-i.digits) (all ∙ sym before.1) ∙ take-length c.loop-i.digits)
    ∙ before.0
    ∙ ap (map hex_byte) (ap (λ n. take n c.args.bytes.now) (all ∙ sym c.told-bytes) ∙ take-length c.args.bytes.now)

pub returns-clause-text : goal.returns-clause-text
returns-clause-text c = IsUtf8-from_ascii (hex_text c.args.bytes.now) (ascii c.args.bytes.now c.fits-bytes)
