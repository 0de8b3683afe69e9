-- What a whole script prints. Assumes nothing.
use Rattle.std.specs.Prelude.{ℕ, cond, List, [], ◌∷◌, ◌++◌, length, Some, None, Option, ◌==◌}
use Rattle.script.specs.declared.commands.Command.{Command}
use Rattle.script.specs.Commands.{command_of}
use Rattle.reply.specs.Replies.{Said, misuse, line_text}
use Rattle.script.specs.Text.{lines_of, cleaned_text, first_word}
use Rattle.rig.specs.Desk.{Desk, performing}

-- A line that is no command is misuse.
abbrev pub obeying : Desk → Option Command → Said × Desk
obeying d None = (misuse, d)
obeying d (Some c) = performing d c

-- What a cleaned line prints, and what it leaves on the bench. An empty one is skipped.
unfoldable pub line_done : Desk → List ℕ → List ℕ × Desk
line_done d line =
    cond (length line == 0)
    ([], d)
    (line_text (first_word line) (obeying d (command_of line)).0, (obeying d (command_of line)).1)

-- What lines print, one after the other, and what they leave.
unfoldable pub lines_done : Desk → List (List ℕ) → List ℕ × Desk
lines_done d [] = ([], d)
lines_done d (l ∷ ls) =
    ((line_done d (cleaned_text l)).0 ++ (lines_done (line_done d (cleaned_text l)).1 ls).0, (lines_done (line_done d (cleaned_text l)).1 ls).1)

-- What a script prints, from an empty bench on.
abbrev pub transcript_of : List ℕ → List ℕ
transcript_of script = (lines_done None (lines_of script)).0
