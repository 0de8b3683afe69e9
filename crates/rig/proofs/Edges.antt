-- The cases at the edges hold by computing. Assumes nothing.
use Rattle.std.proofs.Common.{refl}
use Rattle.memory.specs.Model.{raising}
use Rattle.std.specs.Fmt.{digits}
use Rattle.reply.specs.Replies.{line_text}
use Rattle.cells.proofs.Strips.{three}
use Rattle.loader.specs.Image.{loading}
use Rattle.rig.specs.Edges.{Edges}

pub edges : Edges
unfolding loading raising line_text digits
edges = record {
  image = record { words = refl; made = refl; over = refl; zeros = refl; bare = refl; filled = refl };
  load = record { both = refl; second = refl; below = refl; least = refl; most = refl; above = refl };
  strip = record { legal = three.0; three = three.1 };
  print = record { fault = refl; count = refl; rows = refl; loads = refl };
  raise = record { old = refl; new = refl; torn = refl; cut = λ t. refl };
}
