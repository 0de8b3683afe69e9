use Rattle.script.proofs.Names.{no_style}
use Rattle.script.proofs.commands.StyleFromWord.from_word.Goals as goal

pub returns-in_err-as_text : goal.returns-in_err-as_text
returns-in_err-as_text c = rw c.from_residual.ensures (no_style c.args.word.now c.in_err-as_text.ensures)
