-- What a command makes of the memory on the bench. Assumes nothing.
use Rattle.std.specs.Prelude.{◌≡◌, ℕ, List, map, replicate, Ok, Err, Result}
use Rattle.base.specs.declared.Fault.{Fault}
use Rattle.memory.specs.declared.RowKind.{RowKind}
use Rattle.memory.specs.Model.{Held, Mem, Outcome, kind_of, reading, writing, blanking, raising, powering_up, switching_off}
use Rattle.loader.specs.declared.Image.{Image}
use Rattle.loader.specs.Image.{slot_number, loading}
use Rattle.script.specs.declared.commands.Command.{Command}
use Rattle.script.specs.declared.commands.Command.TheVariants.{Part, Window, Power, Off, Write, Blank, Raise, Read, Count, Rows, Load}
use Rattle.reply.specs.declared.Reply.{Reply}
use Rattle.reply.specs.Replies.{Said, done, refused, misuse, row, count, rows, loaded, said}

-- How a call that tells nothing but its success is answered.
abbrev pub told_of : Result (Unit {0}) Fault → Said
told_of (Ok u) = done
told_of (Err f) = refused f

-- How a reading is answered, with what the area then holds.
abbrev pub row_told : Result RowKind Fault → List ℕ → Said
row_told (Ok k) area = row k area
row_told (Err f) area = refused f

-- Reading row i into an area of zeros.
unfoldable pub read_told : Held → ℕ → Said
read_told h i = row_told (reading h i (replicate 64 0)).0 (reading h i (replicate 64 0)).1

abbrev pub load_told : Result Image Fault → Said
load_told (Ok image) = loaded (slot_number image.slot) image.version
load_told (Err f) = refused f

abbrev pub changed : Outcome → Said × Mem
changed o = (told_of o.0, o.1)

-- A command on a memory. Taking a part and opening a window are not for the memory that is there.
abbrev pub working : Mem → Command → Said × Mem
working m (Part style n) = (misuse, m)
working m (Window f n) = (misuse, m)
working m (Power charge tear) = changed (powering_up m charge tear)
working m Off = (done, switching_off m)
working m (Write i bs) = changed (writing m i bs)
working m (Blank i) = changed (blanking m i)
working m Raise = changed (raising m)
working m (Read i) = (read_told m.held i, m)
working m Count = (count m.count m.ceiling, m)
working m Rows = (rows (map kind_of m.held.rows), m)
working m (Load l) = (load_told (loading m.held l), m)

-- A reply with what it leaves, or, for want of memory of the host, all as it was.
abbrev pub Answered : {X E : Type 0} → Result Reply E → Said × X → X → X → Type 0
Answered (Ok reply) o before after = (said reply ≡ o.0) × (after ≡ o.1)
Answered (Err e) o before after = after ≡ before
