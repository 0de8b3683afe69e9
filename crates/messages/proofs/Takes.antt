-- A message that an end takes. Assumes nothing.
use Rattle.std.proofs.Common.{◌≡◌, ℕ, suc, Bool, true, false, cond, eqb, List, length, Some, Ok, Err, Result, refl, ◌∙◌}
use Rattle.std.proofs.lemmas.Bool.{cond-true, eq-eqb}
use Rattle.messages.specs.declared.kind.End.{End}
use Rattle.messages.specs.declared.kind.Kind.{Kind}
use Rattle.messages.specs.Kinds.{about, same_end}
use Rattle.messages.specs.Wire.{said_by}
use Rattle.messages.specs.Codec.{reading_as}

-- By its kind: it is for this end, and has its length.
pub takes_kind : (end : End) (k : Kind) (rest : List ℕ) → same_end end (about k).reader ≡ true → suc (length rest) ≡ (about k).bytes → reading_as end (Some k) rest ≡ Ok (said_by k rest)
takes_kind end k rest here fits = cond-true (same_end end (about k).reader) _ _ here ∙ cond-true (eqb (suc (length rest)) (about k).bytes) _ _ (eq-eqb (suc (length rest)) (about k).bytes fits)

-- The answer of a test that did not refuse.
pub passed : {T E : Type 0} (b : Bool) (x : Result T E) (f : E) (s : T) → cond b x (Err f) ≡ Ok s → (b ≡ true) × (x ≡ Ok s)
passed true x f s e = (refl, e)
passed false x f s e = absurd (cc)
