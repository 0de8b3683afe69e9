-- A window means what it shows of its memory, and only its own rows change through it. Assumes nothing.
use Rattle.std.specs.Prelude.{◌≡◌}
use Rattle.memory.specs.Model.{Held, Mem}
use Rattle.memory.specs.Shown.{shown_held, shown_mem, Untouched}
use Rattle.memory.specs.declared.window.Window.{Window}

abbrev pub rows_of : {M : Type 0} → (M → Held) → Window M → Held
rows_of held w = shown_held w.first w.count (held w.inner)

abbrev pub view_of : {M : Type 0} → (M → Mem) → Window M → Mem
view_of meaning w = shown_mem w.first w.count (meaning w.inner)

-- The window shows the same rows as before, and all others are as they were.
pub record Bounded {M : Type 0} (meaning : M → Mem) (before after : Window M) : Type 0 where
  pub first : after.first ≡ before.first
  pub count : after.count ≡ before.count
  pub untouched : Untouched before.first before.count (meaning before.inner).held (meaning after.inner).held
