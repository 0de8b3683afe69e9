-- The round keys, and the rounds under them, one after the other. Assumes nothing.
use Rattle.std.proofs.Common.{◌≡◌, ℕ, zero, suc, ◌+◌, ◌-◌, ◌<◌, ◌≤◌, List, [], ◌∷◌, ◌++◌, length, get_or, take, drop, set, refl, sym, ap, ◌∙◌, append_assoc, append-nil, arith}
use Rattle.std.specs.Prelude.{fold}
use Rattle.std.proofs.lemmas.List.{take_all, take_more_set}
use Rattle.aes.specs.Field.{xtime}
use Rattle.aes.specs.Cipher.{next_key, keys_from, one_round, last_round, rounds, xored, ciphered}

-- A round key and those after it, n in all.
unfoldable pub key_list : ℕ → ℕ → List ℕ → List (List ℕ)
key_list zero rcon k = []
key_list (suc n) rcon k = k ∷ key_list n (xtime rcon) (next_key rcon k)

pub key_list-from : (n rcon : ℕ) (k : List ℕ) → key_list (suc n) rcon k ≡ keys_from n rcon k
unfolding key_list
key_list-from zero rcon k = refl
key_list-from (suc n) rcon k = ap (λ ks. k ∷ ks) (key_list-from n (xtime rcon) (next_key rcon k))

-- A round key is written behind those before it.
pub keys_step : (i rcon r : ℕ) (k x next : List ℕ) (ks : List (List ℕ)) → i < 11 → length ks ≡ 11 → x ≡ k → r ≡ xtime rcon → next ≡ next_key rcon k
    → take (i + 1) (set ks i x) ++ key_list (11 - (i + 1)) r next ≡ take i ks ++ key_list (11 - i) rcon k
unfolding key_list
keys_step i rcon r k x next ks h l e f g =
    let more : suc (11 - (i + 1)) ≡ 11 - i = omega arith in
    ap (λ z. z ++ key_list (11 - (i + 1)) r next) (take_more_set ks i x (omega arith))
    ∙ append_assoc (take i ks) (x ∷ []) (key_list (11 - (i + 1)) r next)
    ∙ ap (λ z. take i ks ++ (z ∷ key_list (11 - (i + 1)) r next)) e
    ∙ ap (λ z. take i ks ++ (k ∷ key_list (11 - (i + 1)) z next)) f
    ∙ ap (λ z. take i ks ++ (k ∷ key_list (11 - (i + 1)) (xtime rcon) z)) g
    ∙ ap (λ n. take i ks ++ key_list n rcon k) more

-- All are written.
pub keys_all : (i rcon : ℕ) (k : List ℕ) (ks : List (List ℕ)) → 11 ≤ i → length ks ≡ 11 → ks ≡ take i ks ++ key_list (11 - i) rcon k
unfolding key_list
keys_all i rcon k ks h l =
    let none : 0 ≡ 11 - i = omega arith in
    sym (append-nil ks) ∙ ap (λ z. z ++ []) (sym (take_all i ks (omega arith))) ∙ ap (λ n. take i ks ++ key_list n rcon k) none

-- The rounds, and the last one.
rounds_are : (n : ℕ) (s : List ℕ) (ks : List (List ℕ)) → n < length ks → last_round (fold one_round s (take n ks)) (get_or ks n []) ≡ rounds n s ks
rounds_are n s [] h = absurd (omega arith)
rounds_are zero s (k ∷ ks) h = refl
rounds_are (suc n) s (k ∷ ks) h = rounds_are n (one_round s k) ks (omega arith)

-- A block under eleven round keys.
pub ciphered_is : (ks : List (List ℕ)) (b : List ℕ) → length ks ≡ 11
    → last_round (fold one_round (xored b (get_or ks 0 [])) (take 9 (drop 1 ks))) (get_or ks 10 []) ≡ ciphered ks b
unfolding ciphered
ciphered_is [] b l = absurd (omega arith)
ciphered_is (k ∷ ks) b l = rounds_are 9 (xored b k) ks (omega arith)
