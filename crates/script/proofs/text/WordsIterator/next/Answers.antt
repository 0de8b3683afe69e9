use Rattle.std.proofs.Common.{length, sym, ap, ◌∙◌, arith}
use Rattle.std.specs.Option.{option_map}
use Rattle.script.specs.Text.{words_left}
use Rattle.script.proofs.Splits.{word_found}
use Rattle.script.proofs.text.WordsIterator.next.Goals as goal

pub returns-clause-steps : goal.returns-clause-steps
returns-clause-steps c =
    sym c.self.view_is ∙ ap (λ r. words_left (option_map (λ x. x.now) r)) c.in_ok-self.was
    ∙ word_found c.in_ok-self.field-0.now c.cut.result.0.now (option_map (λ x. x.now) c.cut.result.1) c.cut.ensures.before c.cut.ensures.after

pub returns-clause-goes : goal.returns-clause-goes
returns-clause-goes c = omega (arith, ap length (returns-clause-steps c))
