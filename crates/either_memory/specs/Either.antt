-- What one of two things means. Assumes nothing.
use Rattle.either_memory.specs.declared.Either.{Either}
use Rattle.either_memory.specs.declared.Either.TheVariants.{Left, Right}

-- It means what the one that it is means.
abbrev pub either_of : {A B X : Type 0} → (A → X) → (B → X) → Either A B → X
either_of f g (Left a) = f a
either_of f g (Right b) = g b
