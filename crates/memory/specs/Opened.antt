-- What making a window answers. Assumes nothing.
use Rattle.std.specs.Prelude.{◌≡◌, ℕ, ◌+◌, ◌<◌, ◌≤◌, length, Ok, Err, Result}
use Rattle.base.specs.declared.Case.TheVariants.{BadShape}
use Rattle.base.specs.declared.Layer.TheVariants.{Memory}
use Rattle.base.specs.declared.Fault.{Fault}
use Rattle.base.specs.Faults.{fault}
use Rattle.memory.specs.Model.{Held}
use Rattle.memory.specs.declared.window.Window.{Window}

-- The memory has the n rows from row f on, and n is not 0.
abbrev pub InRange : ℕ → ℕ → Held → Type 0
InRange f n h = (0 < n) × (f + n ≤ length h.rows)

-- The window over the memory as given, or the memory back with the refusal.
abbrev pub Opened : {M : Type 0} → ℕ → ℕ → M → Held → Result (Window M) (Fault × M) → Type 0
Opened f n m h (Ok w) = InRange f n h × (w.first ≡ f) × (w.count ≡ n) × (w.inner ≡ m)
Opened f n m h (Err e) = (InRange f n h → ⊥) × (e.0 ≡ fault BadShape Memory) × (e.1 ≡ m)
