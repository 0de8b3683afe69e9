-- The rounds column by column. Assumes nothing.
use Rattle.std.proofs.Common.{◌≡◌, ℕ, zero, suc, length, refl, ◌+◌, ◌*◌, ◌/◌, ◌%◌, ◌^◌, ◌<◌, List, [], ◌∷◌, ◌++◌, get_or, ap, ◌∙◌, arith}
use Rattle.std.specs.Prelude.{map, bit_xor}
use Rattle.std.specs.Int.Bits.{xor_zero_r}
use Rattle.aes.specs.Cipher.{xored, sub_bytes, shift_rows, mix_column, mix_columns, one_round, last_round, turned, next_key}
use Rattle.aes.specs.Field.{sbox}
use Rattle.aes.proofs.Lists.{sbox_table, first_table, second_table, third_table, fourth_table}
use Rattle.aes.specs.declared.block.Block.TheInside.{Inside}
use Rattle.aes.specs.Words.{word_bytes, bytes_of, columns}
use Rattle.aes.proofs.Rules.{first_part, second_part, third_part, fourth_part, sbox_rule, sbox_byte, first_rule, second_rule, third_rule, fourth_rule}
use Rattle.aes.proofs.Words.{Bytes, xor_word, xor_block, of_bytes, joined}

-- A word of the tables for each byte of a column.
parts_are : (s t u v p q r w : ℕ) → word_bytes p ≡ first_part s → word_bytes q ≡ second_part t → word_bytes r ≡ third_part u → word_bytes w ≡ fourth_part v
    → word_bytes (bit_xor (bit_xor (bit_xor p q) r) w) ≡ mix_column (s ∷ t ∷ u ∷ v ∷ [])
unfolding mix_column
parts_are s t u v p q r w a b c d =
    let f = xor_word (bit_xor (bit_xor p q) r) w in
    let g = xor_word (bit_xor p q) r in
    let h = xor_word p q in
    f ∙ ap (λ (x : List ℕ). xored x (word_bytes w)) (
    g ∙ ap (λ (x : List ℕ). xored x (word_bytes r)) (
    h ∙ ap (λ (x : List ℕ). xored x (word_bytes q)) a ∙ ap (λ (x : List ℕ). xored (first_part s) x) b)
    ∙ ap (λ (x : List ℕ). xored (xored (first_part s) (second_part t)) x) c)
    ∙ ap (λ (x : List ℕ). xored (xored (xored (first_part s) (second_part t)) (third_part u)) x) d

-- Four bytes, one by one.
four : (bs : List ℕ) → length bs ≡ 4 → get_or bs 0 0 ∷ get_or bs 1 0 ∷ get_or bs 2 0 ∷ get_or bs 3 0 ∷ [] ≡ bs
four [] h = absurd (omega arith)
four (a ∷ []) h = absurd (omega arith)
four (a ∷ b ∷ []) h = absurd (omega arith)
four (a ∷ b ∷ c ∷ []) h = absurd (omega arith)
four (a ∷ b ∷ c ∷ d ∷ []) h = refl
four (a ∷ b ∷ c ∷ d ∷ e ∷ es) h = absurd (omega arith)

-- A column through the S-box, mixed, by the tables.
pub mixed_is : (bs : List ℕ) (i j k l : ℕ) → length bs ≡ 4 → Bytes bs
    → i ≡ get_or bs 0 0 → j ≡ get_or bs 1 0 → k ≡ get_or bs 2 0 → l ≡ get_or bs 3 0
    → word_bytes (bit_xor (bit_xor (bit_xor (get_or first_table i 0) (get_or second_table j 0)) (get_or third_table k 0)) (get_or fourth_table l 0))
    ≡ mix_column (sub_bytes bs)
mixed_is bs i j k l n h a b c d =
    let e : mix_column (sbox i ∷ sbox j ∷ sbox k ∷ sbox l ∷ []) ≡ mix_column (sbox (get_or bs 0 0) ∷ sbox (get_or bs 1 0) ∷ sbox (get_or bs 2 0) ∷ sbox (get_or bs 3 0) ∷ []) = cc in
    parts_are (sbox i) (sbox j) (sbox k) (sbox l) _ _ _ _ (first_rule i (omega (arith, h 0))) (second_rule j (omega (arith, h 1)))
    (third_rule k (omega (arith, h 2))) (fourth_rule l (omega (arith, h 3)))
    ∙ e ∙ ap (λ xs. mix_column (sub_bytes xs)) (four bs n)

-- A column through the S-box.
pub subbed_is : (bs : List ℕ) (i j k l : ℕ) → length bs ≡ 4 → Bytes bs
    → i ≡ get_or bs 0 0 → j ≡ get_or bs 1 0 → k ≡ get_or bs 2 0 → l ≡ get_or bs 3 0
    → word_bytes (get_or sbox_table i 0 * 16777216 + get_or sbox_table j 0 * 65536 + get_or sbox_table k 0 * 256 + get_or sbox_table l 0)
    ≡ sub_bytes bs
subbed_is bs i j k l n h a b c d =
    let p = sbox_rule i (omega (arith, h 0)) in
    let q = sbox_rule j (omega (arith, h 1)) in
    let r = sbox_rule k (omega (arith, h 2)) in
    let s = sbox_rule l (omega (arith, h 3)) in
    let e : get_or sbox_table i 0 ∷ get_or sbox_table j 0 ∷ get_or sbox_table k 0 ∷ get_or sbox_table l 0 ∷ []
    ≡ sbox (get_or bs 0 0) ∷ sbox (get_or bs 1 0) ∷ sbox (get_or bs 2 0) ∷ sbox (get_or bs 3 0) ∷ [] = cc in
    of_bytes _ _ _ _ (sbox_byte i (omega (arith, h 0))) (sbox_byte j (omega (arith, h 1))) (sbox_byte k (omega (arith, h 2))) (sbox_byte l (omega (arith, h 3)))
    ∙ e ∙ ap sub_bytes (four bs n)

-- A constant on a word's first byte, and a word turned by a byte.
constant_bytes : (r : ℕ) → r < 256 → word_bytes (r * 2 ^ 24 % 2 ^ 32) ≡ r ∷ 0 ∷ 0 ∷ 0 ∷ []
constant_bytes r h =
    let e : r * 2 ^ 24 % 2 ^ 32 ≡ r * 16777216 + 0 * 65536 + 0 * 256 + 0 = omega arith in
    ap word_bytes e ∙ of_bytes r 0 0 0 h (omega arith) (omega arith) (omega arith)

pub turned_is : (w rcon s : ℕ) (bs : List ℕ) → rcon < 256 → bs ≡ word_bytes w
    → word_bytes s ≡ sub_bytes (get_or bs 1 0 ∷ get_or bs 2 0 ∷ get_or bs 3 0 ∷ get_or bs 0 0 ∷ [])
    → word_bytes (bit_xor s (rcon * 2 ^ 24 % 2 ^ 32)) ≡ turned rcon (word_bytes w)
unfolding turned word_bytes
turned_is w rcon s bs l e f =
    let y = xor_zero_r (sbox (w / 256 % 256)) in
    let z = xor_zero_r (sbox (w % 256)) in
    let x = xor_zero_r (sbox (w / 16777216 % 256)) in
    xor_word s (rcon * 2 ^ 24 % 2 ^ 32)
    ∙ ap (xored (word_bytes s)) (constant_bytes rcon l)
    ∙ ap (λ v. xored v (rcon ∷ 0 ∷ 0 ∷ 0 ∷ [])) (f ∙ ap (λ v. sub_bytes (get_or v 1 0 ∷ get_or v 2 0 ∷ get_or v 3 0 ∷ get_or v 0 0 ∷ [])) e)
    ∙ cc

-- The column at a place, through the S-box.
sub_at : (cs : List (List ℕ)) (i : ℕ) → sub_bytes (get_or cs i []) ≡ get_or (map sub_bytes cs) i []
sub_at [] i = refl
sub_at (c ∷ cs) zero = refl
sub_at (c ∷ cs) (suc i) = sub_at cs i

at : (s : List ℕ) (cs : List (List ℕ)) (i : ℕ) → map sub_bytes cs ≡ columns (shift_rows (sub_bytes s)) → sub_bytes (get_or cs i []) ≡ get_or (columns (shift_rows (sub_bytes s))) i []
at s cs i e = sub_at cs i ∙ ap (λ z. get_or z i []) e

-- A round and the last round, column by column, behind the shift of the rows.
pub round_is : (s : List ℕ) (cs : List (List ℕ)) (k : Inside) (a b c d : ℕ) → map sub_bytes cs ≡ columns (shift_rows (sub_bytes s))
    → word_bytes a ≡ mix_column (sub_bytes (get_or cs 0 [])) → word_bytes b ≡ mix_column (sub_bytes (get_or cs 1 []))
    → word_bytes c ≡ mix_column (sub_bytes (get_or cs 2 [])) → word_bytes d ≡ mix_column (sub_bytes (get_or cs 3 []))
    → word_bytes (bit_xor a k.a) ++ (word_bytes (bit_xor b k.b) ++ (word_bytes (bit_xor c k.c) ++ word_bytes (bit_xor d k.d))) ≡ one_round s (bytes_of k)
unfolding one_round mix_columns
round_is s cs k a b c d e p q t u =
    xor_block a b c d k.a k.b k.c k.d
    ∙ ap (λ x. xored x (bytes_of k)) (joined (p ∙ ap mix_column (at s cs 0 e)) (q ∙ ap mix_column (at s cs 1 e)) (t ∙ ap mix_column (at s cs 2 e)) (u ∙ ap mix_column (at s cs 3 e)))

pub last_is : (s : List ℕ) (cs : List (List ℕ)) (k : Inside) (a b c d : ℕ) → map sub_bytes cs ≡ columns (shift_rows (sub_bytes s))
    → word_bytes a ≡ sub_bytes (get_or cs 0 []) → word_bytes b ≡ sub_bytes (get_or cs 1 [])
    → word_bytes c ≡ sub_bytes (get_or cs 2 []) → word_bytes d ≡ sub_bytes (get_or cs 3 [])
    → word_bytes (bit_xor a k.a) ++ (word_bytes (bit_xor b k.b) ++ (word_bytes (bit_xor c k.c) ++ word_bytes (bit_xor d k.d))) ≡ last_round s (bytes_of k)
unfolding last_round shift_rows
last_is s cs k a b c d e p q t u =
    xor_block a b c d k.a k.b k.c k.d
    ∙ ap (λ x. xored x (bytes_of k)) (joined (p ∙ at s cs 0 e) (q ∙ at s cs 1 e) (t ∙ at s cs 2 e) (u ∙ at s cs 3 e))

-- The four words of the next round key.
pub next_is : (rcon a b c d t : ℕ) → word_bytes t ≡ turned rcon (word_bytes d)
    → word_bytes (bit_xor a t) ++ (word_bytes (bit_xor b (bit_xor a t)) ++ (word_bytes (bit_xor c (bit_xor b (bit_xor a t))) ++ word_bytes (bit_xor d (bit_xor c (bit_xor b (bit_xor a t))))))
    ≡ next_key rcon (word_bytes a ++ (word_bytes b ++ (word_bytes c ++ word_bytes d)))
unfolding next_key turned word_bytes
next_is rcon a b c d t e =
    let p : word_bytes (bit_xor a t) ≡ xored (word_bytes a) (turned rcon (word_bytes d)) = xor_word a t ∙ ap (λ (x : List ℕ). xored (word_bytes a) x) e in
    let q : word_bytes (bit_xor b (bit_xor a t)) ≡ xored (word_bytes b) (xored (word_bytes a) (turned rcon (word_bytes d))) = xor_word b (bit_xor a t) ∙ ap (λ (x : List ℕ). xored (word_bytes b) x) p in
    let r = xor_word c (bit_xor b (bit_xor a t)) ∙ ap (λ (x : List ℕ). xored (word_bytes c) x) q in
    joined p q r (xor_word d (bit_xor c (bit_xor b (bit_xor a t))) ∙ ap (λ (x : List ℕ). xored (word_bytes d) x) r)
