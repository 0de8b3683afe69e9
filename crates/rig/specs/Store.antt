-- What the memory on the bench means: a part of either kind, under no window, one or two. Assumes nothing.
use Rattle.std.specs.Prelude.{◌≡◌, ℕ, Ok, Err, Result}
use Rattle.std.specs.Option.{option_map}
use Rattle.memory.specs.Model.{Mem}
use Rattle.memory.specs.View.{view_of}
use Rattle.parts.specs.Kinds.{rewriting_means, flash_part_means}
use Rattle.cells.specs.declared.cell.PlainRow.{PlainRow}
use Rattle.cells.specs.declared.cell.FlashRow.{FlashRow}
use Rattle.cells.specs.declared.counter.Register.{Register}
use Rattle.cells.specs.declared.counter.Strip.{Strip}
use Rattle.parts.specs.declared.Part.{Part}
use Rattle.parts.specs.declared.NotMade.{NotMade}
use Rattle.parts.specs.Part.{InRange, Refusal}
use Rattle.script.specs.declared.commands.Style.{Style}
use Rattle.either_memory.specs.declared.Either.{Either}
use Rattle.rig.specs.declared.desk.Rig.{Rig}
use Rattle.rig.specs.declared.desk.Store.{Store}
use Rattle.either_memory.specs.Either.{either_of}
use Rattle.rig.specs.Desk.{Setup, setup, Desk, new_part}

abbrev pub AnyPart : Type 0
AnyPart = Either (Part PlainRow Register) (Part FlashRow Strip)

abbrev pub part_means : AnyPart → Mem
part_means = either_of rewriting_means flash_part_means

abbrev pub setup_of : Store → Setup
setup_of (Store.Bare p) = setup (part_means p) 0
setup_of (Store.Window w) = setup (view_of part_means w) 1
setup_of (Store.Nested w) = setup (view_of (view_of part_means) w) 2

abbrev pub desk_of : Rig → Desk
desk_of r = option_map setup_of r.store

-- A new part of a style, or why none was made.
abbrev pub PartMade : Style → ℕ → Result AnyPart NotMade → Type 0
PartMade style n (Ok p) = InRange n × (part_means p ≡ new_part style n)
PartMade style n (Err e) = Refusal n e
