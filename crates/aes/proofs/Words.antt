-- Words and their bytes. Assumes nothing.
use Rattle.std.specs.Prelude.{◌≡◌, ℕ, ◌+◌, ◌*◌, ◌/◌, ◌%◌, ◌^◌, ◌<◌, ◌≤◌, List, [], ◌∷◌, ◌++◌, length, take, drop, bit_xor, refl}
use Rattle.std.specs.Int.{w32, from_be_bytes}
use Rattle.std.specs.Simd.{first_chunks}
use Rattle.std.proofs.Common.{get_or, ap, ◌∙◌, inl, inr, arith, length-drop}
use Rattle.std.proofs.lemmas.Nat.{xor_shr, xor_mod, be_bytes_4}
use Rattle.std.proofs.lemmas.List.{take_all, take-append-drop, get_or-take, get_or-drop, length-take-le, get_or_past}
use Rattle.std.proofs.lemmas.Bool.{cases_lt}
use Rattle.aes.specs.Cipher.{xored}
use Rattle.aes.specs.Words.{word_bytes}

-- A sum of words is the sum of their bytes.
xor_byte : (x y k : ℕ) → bit_xor x y / 2 ^ k % 256 ≡ bit_xor (x / 2 ^ k % 256) (y / 2 ^ k % 256)
xor_byte x y k = ap (λ (z : ℕ). z % 256) (xor_shr x y k) ∙ xor_mod (x / 2 ^ k) (y / 2 ^ k) 8

pub xor_word : (x y : ℕ) → word_bytes (bit_xor x y) ≡ xored (word_bytes x) (word_bytes y)
unfolding word_bytes
xor_word x y =
    let p = xor_byte x y 24 in
    let q = xor_byte x y 16 in
    let r = xor_byte x y 8 in
    let s = xor_mod x y 8 in
    cc

-- A word of four bytes has those bytes.
pub of_bytes : (a b c d : ℕ) → a < 256 → b < 256 → c < 256 → d < 256 → word_bytes (a * 16777216 + b * 65536 + c * 256 + d) ≡ a ∷ b ∷ c ∷ d ∷ []
unfolding word_bytes
of_bytes a b c d p q r s =
    let w : (a * 16777216 + b * 65536 + c * 256 + d) / 16777216 % 256 ≡ a = omega arith in
    let x : (a * 16777216 + b * 65536 + c * 256 + d) / 65536 % 256 ≡ b = omega arith in
    let y : (a * 16777216 + b * 65536 + c * 256 + d) / 256 % 256 ≡ c = omega arith in
    let z : (a * 16777216 + b * 65536 + c * 256 + d) % 256 ≡ d = omega arith in
    cc

-- Four parts, each by another.
pub joined : {A B C D E F G H : List ℕ} → A ≡ E → B ≡ F → C ≡ G → D ≡ H → A ++ (B ++ (C ++ D)) ≡ E ++ (F ++ (G ++ H))
joined p q r s = cc

-- A sum of blocks is the sum of their bytes.
pub xor_block : (a b c d e f g h : ℕ)
    → word_bytes (bit_xor a e) ++ (word_bytes (bit_xor b f) ++ (word_bytes (bit_xor c g) ++ word_bytes (bit_xor d h)))
    ≡ xored (word_bytes a ++ (word_bytes b ++ (word_bytes c ++ word_bytes d))) (word_bytes e ++ (word_bytes f ++ (word_bytes g ++ word_bytes h)))
unfolding word_bytes
xor_block a b c d e f g h = joined (xor_word a e) (xor_word b f) (xor_word c g) (xor_word d h)

-- Whether the elements are bytes.
abbrev pub Bytes : List ℕ → Type 0
Bytes bs = (i : ℕ) → get_or bs i 0 < 256

bytes-drop : (bs : List ℕ) → Bytes bs → Bytes (drop 4 bs)
bytes-drop bs h i = omega (arith, get_or-drop 4 bs i 0, h (4 + i))

-- Four bytes write a word that has those bytes.
word_is : (bs : List ℕ) → 4 ≤ length bs → Bytes bs → word_bytes (from_be_bytes w32 (take 4 bs)) ≡ take 4 bs
unfolding word_bytes
word_is bs l h = be_bytes_4 (take 4 bs) (from_be_bytes w32 (take 4 bs)) (length-take-le 4 bs l) byte refl
  where
    byte : Bytes (take 4 bs)
    byte i = elim (cases_lt i 4) [ inl p ↦ omega (arith, get_or-take 4 bs i 0 p, h i) | inr p ↦ omega (arith, get_or_past (take 4 bs) i 0 (omega (arith, length-take-le 4 bs l))) ]

-- Sixteen bytes, four at a time.
pub in_four : (bs : List ℕ) → length bs ≡ 16
    → take 4 bs ++ (take 4 (drop 4 bs) ++ (take 4 (drop 4 (drop 4 bs)) ++ take 4 (drop 4 (drop 4 (drop 4 bs))))) ≡ bs
in_four bs l =
    let c = drop 4 (drop 4 bs) in
    let last : take 4 (drop 4 c) ≡ drop 4 c = take_all 4 (drop 4 c) (simp length-drop (omega arith)) in
    ap (λ xs. take 4 bs ++ (take 4 (drop 4 bs) ++ (take 4 c ++ xs))) last
    ∙ ap (λ xs. take 4 bs ++ (take 4 (drop 4 bs) ++ xs)) (take-append-drop 4 c)
    ∙ ap (λ xs. take 4 bs ++ xs) (take-append-drop 4 (drop 4 bs))
    ∙ take-append-drop 4 bs

-- The block of sixteen bytes.
pub block_is : (bs : List ℕ) (ws : List (List ℕ)) → length bs ≡ 16 → Bytes bs → ws ≡ first_chunks 4 (length bs / 4) bs
    → word_bytes (from_be_bytes w32 (get_or ws 0 [])) ++ (word_bytes (from_be_bytes w32 (get_or ws 1 []))
    ++ (word_bytes (from_be_bytes w32 (get_or ws 2 [])) ++ word_bytes (from_be_bytes w32 (get_or ws 3 [])))) ≡ bs
block_is bs ws l h e =
    let four : ws ≡ first_chunks 4 4 bs = e ∙ ap (λ n. first_chunks 4 (n / 4) bs) l in
    let h1 = bytes-drop bs h in
    let h2 = bytes-drop (drop 4 bs) h1 in
    let h3 = bytes-drop (drop 4 (drop 4 bs)) h2 in
    ap (λ xs. word_bytes (from_be_bytes w32 (get_or xs 0 [])) ++ (word_bytes (from_be_bytes w32 (get_or xs 1 []))
    ++ (word_bytes (from_be_bytes w32 (get_or xs 2 [])) ++ word_bytes (from_be_bytes w32 (get_or xs 3 []))))) four
    ∙ joined (word_is bs (omega arith) h) (word_is (drop 4 bs) (simp length-drop (omega arith)) h1)
    (word_is (drop 4 (drop 4 bs)) (simp length-drop (omega arith)) h2) (word_is (drop 4 (drop 4 (drop 4 bs))) (simp length-drop (omega arith)) h3)
    ∙ in_four bs l
