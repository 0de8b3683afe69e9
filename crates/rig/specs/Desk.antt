-- What stands on the bench, and what a script makes of it. Assumes nothing.
use Rattle.std.specs.Prelude.{ℕ, ◌+◌, Bool, cond, not, ◌&&◌, length, Some, None, Option, ◌==◌, nat_le, nat_lt}
use Rattle.base.specs.declared.Case.TheVariants.{BadShape}
use Rattle.base.specs.declared.Layer.TheVariants.{Memory}
use Rattle.base.specs.Faults.{fault}
use Rattle.memory.specs.Model.{Held, Mem}
use Rattle.memory.specs.Shown.{shown_mem}
use Rattle.cells.specs.Bounds.{register_limit, strip_bits}
use Rattle.parts.specs.Bounds.{max_rows}
use Rattle.parts.specs.Part.{new_mem}
use Rattle.script.specs.declared.commands.Style.{Style}
use Rattle.script.specs.declared.commands.Style.TheVariants.{Rewriting, Flash}
use Rattle.script.specs.declared.commands.Command.{Command}
use Rattle.script.specs.declared.commands.Command.TheVariants.{Part, Window, Power, Off, Write, Blank, Raise, Read, Count, Rows, Load}
use Rattle.reply.specs.Replies.{Said, done, refused, misuse}
use Rattle.rig.specs.Working.{working}

-- A memory, and how many windows lie between it and its part.
pub record Setup : Type 0 where
  pub memory : Mem
  pub windows : ℕ

-- The bench is empty at first.
abbrev pub Desk : Type 0
Desk = Option Setup

abbrev pub setup : Mem → ℕ → Setup
setup m n = record { memory = m; windows = n }

-- A new part of n rows.
abbrev pub new_part : Style → ℕ → Mem
new_part Rewriting n = new_mem register_limit n
new_part Flash n = new_mem strip_bits n

-- Taking a part puts away all that stood there; a refused one changes nothing.
abbrev pub fitting : Desk → Style → ℕ → Said × Desk
fitting d style n =
    cond (nat_le 1 n && nat_le n max_rows) (done, Some (setup (new_part style n) 0)) (refused (fault BadShape Memory), d)

-- The memory has the n rows from row f on, and n is not 0.
abbrev pub has : Held → ℕ → ℕ → Bool
has h f n = not (n == 0) && nat_le (f + n) (length h.rows)

-- A window onto the memory that is there, and one onto that, but no third.
abbrev pub windowing : Setup → ℕ → ℕ → Said × Setup
windowing s f n =
    cond (nat_lt s.windows 2)
    (cond (has s.memory.held f n) (done, setup (shown_mem f n s.memory) (s.windows + 1)) (refused (fault BadShape Memory), s))
    (misuse, s)

-- A command that wants a memory is misuse where there is none.
abbrev pub on_setup : Desk → (Setup → Said × Setup) → Said × Desk
on_setup None f = (misuse, None)
on_setup (Some s) f = ((f s).0, Some (f s).1)

abbrev pub worked : Command → Setup → Said × Setup
worked c s = ((working s.memory c).0, setup (working s.memory c).1 s.windows)

-- What a command is answered, and what it leaves.
abbrev pub performing : Desk → Command → Said × Desk
performing d (Part style n) = fitting d style n
performing d (Window f n) = on_setup d (λ s. windowing s f n)
performing d (Power charge tear) = on_setup d (worked (Power charge tear))
performing d Off = on_setup d (worked Off)
performing d (Write i bs) = on_setup d (worked (Write i bs))
performing d (Blank i) = on_setup d (worked (Blank i))
performing d Raise = on_setup d (worked Raise)
performing d (Read i) = on_setup d (worked (Read i))
performing d Count = on_setup d (worked Count)
performing d Rows = on_setup d (worked Rows)
performing d (Load l) = on_setup d (worked (Load l))
