-- The shift of a block, the chain of blocks, and the padding. Assumes nothing.
use Rattle.std.proofs.Common.{◌≡◌, ℕ, zero, suc, ◌+◌, ◌-◌, ◌*◌, ◌/◌, ◌%◌, ◌<◌, List, [], ◌∷◌, ◌++◌, length, take, drop, set, replicate, sym, refl, ap, ◌∙◌, arith}
use Rattle.std.specs.Prelude.{bit_xor, slice_set, fold}
use Rattle.std.specs.Simd.{first_chunks}
use Rattle.std.specs.Int.Bits.{xor_zero_r}
use Rattle.std.proofs.lemmas.List.{take-take, drop-take, drop-replicate, set_at}
use Rattle.aes.specs.Cipher.{xored}
use Rattle.aes.specs.Mac.{doubled, padded, chained}
use Rattle.aes.specs.Words.{word_bytes, word_whole}
use Rattle.aes.proofs.Words.{xor_word, of_bytes, joined}

-- The bytes of a word shifted by one bit, with a bit that comes in.
shl : ℕ → ℕ → List ℕ
shl w b =
    (w / 16777216 % 256 * 2 % 256 + w / 65536 % 256 / 128) ∷ (w / 65536 % 256 * 2 % 256 + w / 256 % 256 / 128)
    ∷ (w / 256 % 256 * 2 % 256 + w % 256 / 128) ∷ (w % 256 * 2 % 256 + b) ∷ []

-- A byte shifted, without the bit that falls out.
low : (x : ℕ) → x * 2 % 256 ≡ x * 2 - x / 128 * 256
low x = omega arith

-- A word out of its bytes.
shl_four : (a b c d t : ℕ) → a < 256 → b < 256 → c < 256 → d < 256 → t < 2
    → (a * 16777216 + b * 65536 + c * 256 + d) * 2 % 4294967296 + t
    ≡ (a * 2 % 256 + b / 128) * 16777216 + (b * 2 % 256 + c / 128) * 65536 + (c * 2 % 256 + d / 128) * 256 + (d * 2 % 256 + t)
shl_four a b c d t ha hb hc hd ht =
    let out : (a * 16777216 + b * 65536 + c * 256 + d) * 2 / 4294967296 ≡ a / 128 = omega arith in
    let p = low a in
    let q = low b in
    let r = low c in
    let s = low d in
    omega arith

shl_word : (w t : ℕ) → w < 4294967296 → t < 2 → word_bytes (w * 2 % 4294967296 + t) ≡ shl w t
unfolding shl
shl_word w t h k =
    ap (λ (x : ℕ). word_bytes (x * 2 % 4294967296 + t)) (sym (word_whole w h))
    ∙ ap word_bytes (shl_four (w / 16777216 % 256) (w / 65536 % 256) (w / 256 % 256) (w % 256) t (omega arith) (omega arith) (omega arith) (omega arith) k)
    ∙ of_bytes _ _ _ _ (byte (w / 16777216 % 256) (w / 65536 % 256 / 128) (omega arith)) (byte (w / 65536 % 256) (w / 256 % 256 / 128) (omega arith))
    (byte (w / 256 % 256) (w % 256 / 128) (omega arith)) (byte (w % 256) t k)
  where
    byte : (x t : ℕ) → t < 2 → x * 2 % 256 + t < 256
    byte x t h = omega arith

-- The highest bit of a word.
top : (w : ℕ) → w < 4294967296 → w / 2147483648 ≡ w / 16777216 % 256 / 128
top w h = omega arith

-- The last word shifted, and what comes in for the bit that fell out.
constant : (t : ℕ) → t < 2 → word_bytes (t * 135) ≡ 0 ∷ 0 ∷ 0 ∷ t * 135 ∷ []
constant t h =
    let e : t * 135 ≡ 0 * 16777216 + 0 * 65536 + 0 * 256 + t * 135 = omega arith in
    ap word_bytes e ∙ of_bytes 0 0 0 (t * 135) (omega arith) (omega arith) (omega arith) (omega arith)

last : (a d : ℕ) → a < 4294967296 → d < 4294967296
    → word_bytes (bit_xor (d * 2 % 4294967296) (a / 2147483648 * 135))
    ≡ (d / 16777216 % 256 * 2 % 256 + d / 65536 % 256 / 128) ∷ (d / 65536 % 256 * 2 % 256 + d / 256 % 256 / 128)
    ∷ (d / 256 % 256 * 2 % 256 + d % 256 / 128) ∷ bit_xor (d % 256 * 2 % 256) (a / 16777216 % 256 / 128 * 135) ∷ []
unfolding shl
last a d ha hd =
    let e : d * 2 % 4294967296 ≡ d * 2 % 4294967296 + 0 = omega arith in
    let f : d % 256 * 2 % 256 + 0 ≡ d % 256 * 2 % 256 = omega arith in
    let t = a / 2147483648 in
    let x = xor_zero_r (d / 16777216 % 256 * 2 % 256 + d / 65536 % 256 / 128) in
    let y = xor_zero_r (d / 65536 % 256 * 2 % 256 + d / 256 % 256 / 128) in
    let z = xor_zero_r (d / 256 % 256 * 2 % 256 + d % 256 / 128) in
    let w = top a ha in
    xor_word (d * 2 % 4294967296) (a / 2147483648 * 135)
    ∙ ap (λ (v : List ℕ). xored v (word_bytes (a / 2147483648 * 135))) (ap word_bytes e ∙ shl_word d 0 hd (omega arith))
    ∙ ap (xored (shl d 0)) (constant (a / 2147483648) (omega arith))
    ∙ (cc)

-- The block shifted by one bit, word by word.
pub doubled_is : (a b c d : ℕ) → a < 4294967296 → b < 4294967296 → c < 4294967296 → d < 4294967296
    → word_bytes (a * 2 % 4294967296 + b / 2147483648) ++ (word_bytes (b * 2 % 4294967296 + c / 2147483648) ++ (word_bytes (c * 2 % 4294967296 + d / 2147483648)
    ++ word_bytes (bit_xor (d * 2 % 4294967296) (a / 2147483648 * 135))))
    ≡ doubled (word_bytes a ++ (word_bytes b ++ (word_bytes c ++ word_bytes d)))
unfolding word_bytes doubled shl
doubled_is a b c d ha hb hc hd =
    joined (shl_word a (b / 2147483648) ha (omega arith) ∙ ap (shl a) (top b hb)) (shl_word b (c / 2147483648) hb (omega arith) ∙ ap (shl b) (top c hc))
    (shl_word c (d / 2147483648) hc (omega arith) ∙ ap (shl c) (top d hd)) (last a d ha hd)

-- The blocks of a text before some place.
chunks_before : (k : ℕ) (text : List ℕ) → first_chunks 16 k (take (k * 16) text) ≡ first_chunks 16 k text
chunks_before zero text = refl
chunks_before (suc k) text =
    let more : suc k * 16 ≡ 16 + k * 16 = omega arith in
    ap (λ n. first_chunks 16 (suc k) (take n text)) more
    ∙ ap (λ xs. xs ∷ first_chunks 16 k (drop 16 (take (16 + k * 16) text))) (take-take 16 (16 + k * 16) text (omega arith))
    ∙ ap (λ xs. take 16 text ∷ first_chunks 16 k xs) (drop-take 16 (k * 16) text)
    ∙ ap (λ bs. take 16 text ∷ bs) (chunks_before k (drop 16 text))

chained_is : (cipher : List ℕ → List ℕ) (k : ℕ) (x text : List ℕ) → fold (λ y block. cipher (xored y block)) x (first_chunks 16 k text) ≡ chained cipher k x text
chained_is cipher zero x text = refl
chained_is cipher (suc k) x text = chained_is cipher k (cipher (xored x (take 16 text))) (drop 16 text)

pub front_chained : (cipher : List ℕ → List ℕ) (k : ℕ) (x text front : List ℕ) (bs : List (List ℕ))
    → bs ≡ first_chunks 16 (length front / 16) front → front ≡ take (k * 16) text → length front ≡ k * 16
    → fold (λ y block. cipher (xored y block)) x bs ≡ chained cipher k x text
front_chained cipher k x text front bs e f l =
    let n : length front / 16 ≡ k = omega arith in
    let blocks : bs ≡ first_chunks 16 k text =
    e ∙ ap (λ m. first_chunks 16 m front) n ∙ ap (first_chunks 16 k) f ∙ chunks_before k text in
    ap (λ z. fold (λ y block. cipher (xored y block)) x z) blocks ∙ chained_is cipher k x text

-- The rest of a text in a cleared area, and one bit behind it.
pub padded_is : (rest ys zs : List ℕ) → length rest < 16 → ys ≡ rest → zs ≡ replicate 16 0
    → slice_set (ys ++ drop (length rest) zs) (length rest) 128 ≡ padded rest
padded_is rest ys zs h e f =
    let more : 16 - length rest ≡ suc (15 - length rest) = omega arith in
    ap (λ z. set (z ++ drop (length rest) zs) (length rest) 128) e
    ∙ ap (λ z. set (rest ++ drop (length rest) z) (length rest) 128) f
    ∙ ap (λ z. set (rest ++ z) (length rest) 128) (drop-replicate (length rest) 16 0 ∙ ap (λ k. replicate k 0) more)
    ∙ set_at rest 0 (replicate (15 - length rest) 0) 128 (length rest) refl
