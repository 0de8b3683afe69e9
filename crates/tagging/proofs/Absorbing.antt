-- A text, word by word. Assumes nothing.
use Rattle.std.proofs.Common.{◌≡◌, ℕ, zero, suc, ◌+◌, ◌*◌, ◌/◌, ◌%◌, ◌≤◌, List, [], ◌∷◌, ◌++◌, length, take, drop, sym, refl, ap, ◌∙◌, suc-add, div-one, arith, length-append, length-drop, drop-drop}
use lib.ListN.{length-replicate}
use lib.Seq.{take-append-le, drop-append-le}
use Rattle.std.proofs.lemmas.List.{take_all, length-take-le}
use Rattle.tagging.specs.declared.sip.State.{State}
use Rattle.tagging.specs.Sip.{started, absorbed, absorbs, finished, filling, sip_hash}
use Rattle.tagging.specs.Words.{low_first, word_bytes}
use Rattle.tagging.proofs.Numbers.{low_eight}
use Rattle.std.specs.Int.{w64, from_le_bytes}
use Rattle.std.specs.Prelude.{fold}
use Rattle.std.specs.Simd.{first_chunks}

-- The whole words of a text, one after the other.
pub absorbs-all : (n : ℕ) (s : State) (text : List ℕ) → n * 8 ≤ length text
    → fold (λ t word. absorbed t (from_le_bytes w64 word)) s (first_chunks 8 n text) ≡ absorbs n s text
unfolding absorbs
absorbs-all zero s text h = refl
absorbs-all (suc n) s text h =
    let word : from_le_bytes w64 (take 8 text) ≡ low_first (take 8 text) = low_eight (take 8 text) (length-take-le 8 text (omega arith)) in
    ap (λ m. fold (λ t w. absorbed t (from_le_bytes w64 w)) (absorbed s m) (first_chunks 8 n (drop 8 text))) word
    ∙ absorbs-all n (absorbed s (low_first (take 8 text))) (drop 8 text) (simp length-drop (omega arith))

-- The last word, after all before it.
pub absorbs-last : (n : ℕ) (s : State) (text fill : List ℕ) → n * 8 ≤ length text
    → absorbs (n + 1) s (text ++ fill) ≡ absorbed (absorbs n s text) (low_first (take 8 (drop (n * 8) text ++ fill)))
unfolding absorbs
absorbs-last zero s text fill h = refl
absorbs-last (suc n) s text fill h =
    let front : take 8 (text ++ fill) ≡ take 8 text = take-append-le 8 text fill (omega arith) in
    let rest : drop 8 (text ++ fill) ≡ drop 8 text ++ fill = drop-append-le 8 text fill (omega arith) in
    let t : State = absorbed s (low_first (take 8 text)) in
    let more : drop (n * 8) (drop 8 text) ≡ drop (suc n * 8) text = drop-drop (n * 8) 8 text ∙ ap (λ (k : ℕ). drop k text) (omega arith) in
    ap (λ (k : ℕ). absorbs k s (text ++ fill)) (suc-add n 1)
    ∙ ap (λ (z : List ℕ). absorbs (n + 1) (absorbed s (low_first z)) (drop 8 (text ++ fill))) front
    ∙ ap (λ (z : List ℕ). absorbs (n + 1) t z) rest
    ∙ absorbs-last n t (drop 8 text) fill (simp length-drop (omega arith))
    ∙ ap (λ (z : List ℕ). absorbed (absorbs n t (drop 8 text)) (low_first (take 8 (z ++ fill)))) more

-- The two words of a key.
pub key-words : (key : List ℕ) (words : List (List ℕ)) → length key ≡ 16 → words ≡ first_chunks 8 (length key / 8) key
    → words ≡ take 8 key ∷ take 8 (drop 8 key) ∷ []
key-words key words l e = e ∙ ap (λ n. first_chunks 8 (n / 8) key) l

-- A word's bytes, as the library writes them.
pub bytes_of_word : (n : ℕ)
    → (n % 256) ∷ (n / 256 % 256) ∷ (n / 65536 % 256) ∷ (n / 16777216 % 256) ∷ (n / 4294967296 % 256) ∷ (n / 1099511627776 % 256) ∷ (n / 281474976710656 % 256) ∷ (n / 72057594037927936 % 256) ∷ [] ≡ word_bytes n
bytes_of_word n = ap (λ (k : ℕ). (k % 256) ∷ (n / 256 % 256) ∷ (n / 65536 % 256) ∷ (n / 16777216 % 256) ∷ (n / 4294967296 % 256) ∷ (n / 1099511627776 % 256) ∷ (n / 281474976710656 % 256) ∷ (n / 72057594037927936 % 256) ∷ []) (sym (div-one n))

-- What is left of a text after its whole words, filled up, is a word.
pub last-filled : (text : List ℕ)
    → take 8 (drop (length text / 8 * 8) text ++ filling (length text) (length text % 8)) ≡ drop (length text / 8 * 8) text ++ filling (length text) (length text % 8)
last-filled text = take_all 8 _ (simp (length-append, length-replicate, length-drop) (omega arith))

-- The hash, by a text's whole words and the one that fills what they leave.
pub hash_is : (key text rest : List ℕ) (words : List (List ℕ)) → words ≡ first_chunks 8 (length text / 8) text → rest ≡ drop (length text / 8 * 8) text
    → finished (absorbed (fold (λ t word. absorbed t (from_le_bytes w64 word)) (started key) words) (low_first (rest ++ filling (length text) (length rest)))) ≡ sip_hash key text
unfolding sip_hash
hash_is key text rest words e f =
    let n : ℕ = length text / 8 in
    let left : length rest ≡ length text % 8 = ap length f ∙ length-drop (n * 8) text ∙ omega arith in
    let all = absorbs-all n (started key) text (omega arith) in
    let last = absorbs-last n (started key) text (filling (length text) (length text % 8)) (omega arith) in
    let filled = last-filled text in
    ap finished (cc)
