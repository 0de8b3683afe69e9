-- How the code holds a block: in four words, whose highest byte comes first. Assumes nothing.
use Rattle.std.specs.Prelude.{◌≡◌, ℕ, ◌+◌, ◌*◌, ◌/◌, ◌%◌, ◌^◌, ◌<◌, List, [], ◌∷◌, ◌++◌, slice_index}
use Rattle.std.proofs.Common.{sym, ap, ◌∙◌, mod-eq_of_lt, arith}
use Rattle.std.proofs.Math.Nat.{div-div-eq-div-mul}
use Rattle.std.proofs.lemmas.Nat.{div-add-mod'}
use Rattle.aes.specs.Cipher.{column}
use Rattle.aes.specs.declared.block.Block.TheInside.{Inside}

-- The four bytes of a word.
unfoldable pub word_bytes : ℕ → List ℕ
word_bytes w = (w / 16777216 % 256) ∷ (w / 65536 % 256) ∷ (w / 256 % 256) ∷ (w % 256) ∷ []

-- The sixteen bytes of a block.
abbrev pub bytes_of : Inside → List ℕ
bytes_of b = word_bytes b.a ++ (word_bytes b.b ++ (word_bytes b.c ++ word_bytes b.d))

-- Each of its words has 32 bits.
abbrev pub Fits : Inside → Type 0
Fits b = (b.a < 2 ^ 32) × (b.b < 2 ^ 32) × (b.c < 2 ^ 32) × (b.d < 2 ^ 32)

-- The word that four bytes write from a place on, and the block that sixteen bytes write.
abbrev pub word_at : ℕ → List ℕ → ℕ
word_at i bs = slice_index bs i * 16777216 + slice_index bs (i + 1) * 65536 + slice_index bs (i + 2) * 256 + slice_index bs (i + 3)

abbrev pub block_of : List ℕ → Inside
block_of bs = record { a = word_at 0 bs; b = word_at 4 bs; c = word_at 8 bs; d = word_at 12 bs }

-- The bytes of a block write this block again.
pub word_whole : (w : ℕ) → w < 2 ^ 32 → w / 16777216 % 256 * 16777216 + w / 65536 % 256 * 65536 + w / 256 % 256 * 256 + w % 256 ≡ w
word_whole w h =
    let p : w / 256 / 256 ≡ w / 65536 = div-div-eq-div-mul w 256 256 in
    let q : w / 65536 / 256 ≡ w / 16777216 = div-div-eq-div-mul w 65536 256 in
    let x : w / 256 ≡ w / 256 / 256 * 256 + w / 256 % 256 = sym (div-add-mod' (w / 256) 256) in
    let y : w / 65536 ≡ w / 65536 / 256 * 256 + w / 65536 % 256 = sym (div-add-mod' (w / 65536) 256) in
    let z : w / 16777216 % 256 ≡ w / 16777216 = mod-eq_of_lt (omega arith) in
    omega arith

pub block_of_bytes : (b : Inside) → Fits b → block_of (bytes_of b) ≡ b
unfolding word_bytes
block_of_bytes b h =
    ap (λ w. made w (word_at 4 (bytes_of b)) (word_at 8 (bytes_of b)) (word_at 12 (bytes_of b))) (word_whole b.a h.0)
    ∙ ap (λ w. made b.a w (word_at 8 (bytes_of b)) (word_at 12 (bytes_of b))) (word_whole b.b h.1)
    ∙ ap (λ w. made b.a b.b w (word_at 12 (bytes_of b))) (word_whole b.c h.2)
    ∙ ap (made b.a b.b b.c) (word_whole b.d h.3)
  where
    made : ℕ → ℕ → ℕ → ℕ → Inside
    made a b c d = record { a = a; b = b; c = c; d = d }

-- The four columns of a state.
abbrev pub columns : List ℕ → List (List ℕ)
columns s = column 0 s ∷ column 4 s ∷ column 8 s ∷ column 12 s ∷ []
