-- What probing every row tells. Assumes nothing.
use Rattle.std.proofs.Common.{◌≡◌, ℕ, zero, suc, ◌+◌, ◌<◌, ◌∷◌, map, length, drop, sym, ap, ◌∙◌, arith}
use Rattle.std.specs.List.{filter_map, range_with_len, cons_option}
use Rattle.std.proofs.lemmas.List.{at_drop_more, at_drop_all}
use Rattle.std.proofs.lemmas.Bool.{lt-ltb, cond-true}
use Rattle.memory.specs.Model.{blank, Held, at, kind_of, probing}

-- From row a on, of n rows.
kinds_from : (h : Held) (n a : ℕ) → a + n ≡ length h.rows → filter_map (probing h) (range_with_len a n) ≡ map kind_of (drop a h.rows)
kinds_from h zero a e = sym (at_drop_all (map kind_of) h.rows a (omega arith))
kinds_from h (suc n) a e =
    let below : a < length h.rows = omega arith in
    ap (λ k. cons_option k (filter_map (probing h) (range_with_len (a + 1) n))) (cond-true _ _ _ (lt-ltb a (length h.rows) below))
    ∙ ap (λ ks. kind_of (at h a) ∷ ks) (kinds_from h n (a + 1) (omega arith))
    ∙ sym (at_drop_more (map kind_of) h.rows a blank below)

pub all_kinds : (h : Held) (n : ℕ) → n ≡ length h.rows → filter_map (probing h) (range_with_len 0 n) ≡ map kind_of h.rows
all_kinds h n e = kinds_from h n 0 (omega arith)
