use Rattle.std.proofs.Common.{◌∙◌}
use Rattle.script.specs.Commands.{readers}
use Rattle.script.proofs.Names.{unnamed, no_name}
use Rattle.script.proofs.commands.named.Goals as goal

pub returns-in_err-as_text : goal.returns-in_err-as_text
returns-in_err-as_text c = rw c.from_residual.ensures (no_name c.args.name.now c.args.words c.in_err-as_text.ensures)

pub returns-in_default : goal.returns-in_default
returns-in_default c =
    let h = c.in_default in
    let is = c.in_ok-as_text.ensures in
    unnamed readers c.args.name.now c.args.words (λ e. h.not-part (is ∙ e), (λ e. h.not-window (is ∙ e), (λ e. h.not-power (is ∙ e), (λ e. h.not-off (is ∙ e), (λ e. h.not-write (is ∙ e), (λ e. h.not-blank (is ∙ e), (λ e. h.not-raise (is ∙ e), (λ e. h.not-read (is ∙ e), (λ e. h.not-count (is ∙ e), (λ e. h.not-rows (is ∙ e), (λ e. h.not-load (is ∙ e), tt)))))))))))
