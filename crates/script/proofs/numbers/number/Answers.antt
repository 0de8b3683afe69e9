use Rattle.std.proofs.Common.{◌≡◌, true, false, sym, ◌∙◌, ap}
use Rattle.script.specs.Words.{is_hex, in_base, at_most, number_to}
use Rattle.script.proofs.Readings.{begins_hex}
use Rattle.script.proofs.numbers.number.Goals as goal

pub returns-in-Some : goal.returns-in-Some
unfolding number_to
returns-in-Some c =
    let hex : is_hex c.args.word.now ≡ true = sym (begins_hex c.args.word.now) ∙ c.in-Some.ensures.cases.0 in
    rw hex (c.number_in.ensures ∙ ap (λ ds. at_most _ (in_base 16 ds)) c.in-Some.ensures.cases.1)

pub returns-in-None : goal.returns-in-None
unfolding number_to
returns-in-None c =
    let hex : is_hex c.args.word.now ≡ false = sym (begins_hex c.args.word.now) ∙ c.in-None.ensures.cases in
    rw hex c.number_in-in-None.ensures
