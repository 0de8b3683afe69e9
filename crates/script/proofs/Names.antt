-- Words that name nothing. Assumes nothing.
use Rattle.std.proofs.Common.{◌≡◌, ℕ, Bool, true, false, List, [], ◌∷◌, None, codes, sym, refl, subst}
use Rattle.std.specs.List.{AllByRecursion}
use Rattle.std.specs.Str.{IsUtf8, all_scalars, encode_utf8_all, bytes_eq}
use Rattle.std.proofs.lemmas.Slice.Eq.{bytes_eq-Decides}
use Rattle.script.specs.Commands.{Reader, readers, read_by, style_of}

other_at : (word text : List ℕ) → (word ≡ text → ⊥) → (b : Bool) → bytes_eq word text ≡ b → bytes_eq word text ≡ false
other_at word text other true e = absurd (other ((bytes_eq-Decides word text).0 e))
other_at word text other false e = e

pub unnamed : (rs : List Reader) (word : List ℕ) (args : List (List ℕ)) → AllByRecursion (λ r. word ≡ r.name → ⊥) rs → None ≡ read_by rs word args
unnamed [] word args all = refl
unnamed (r ∷ rs) word args all = let t : bytes_eq word r.name ≡ false = other_at word r.name all.0 (bytes_eq word r.name) refl in simp t (unnamed rs word args all.1)

-- A word that is no text is none of these.
no_text : (word text : List ℕ) → (IsUtf8 word → ⊥) → IsUtf8 text → word ≡ text → ⊥
no_text word text none some e = none (subst IsUtf8 (sym e) some)

no_texts : (rs : List Reader) (word : List ℕ) → (IsUtf8 word → ⊥) → AllByRecursion (λ r. (all_scalars r.name ≡ true) × (encode_utf8_all r.name ≡ r.name)) rs → AllByRecursion (λ r. word ≡ r.name → ⊥) rs
no_texts [] word none all = tt
no_texts (r ∷ rs) word none all = (no_text word r.name none (r.name, all.0), no_texts rs word none all.1)

pub no_style : (word : List ℕ) → (IsUtf8 word → ⊥) → None ≡ style_of word
unfolding lib.Utf8.encode
no_style word none =
    let rewriting = other_at word (codes "rewriting") (no_text word (codes "rewriting") none (codes "rewriting", (refl, refl))) _ refl in
    let flash = other_at word (codes "flash") (no_text word (codes "flash") none (codes "flash", (refl, refl))) _ refl in
    simp (rewriting, flash)

pub no_name : (word : List ℕ) (args : List (List ℕ)) → (IsUtf8 word → ⊥) → None ≡ read_by readers word args
unfolding lib.Utf8.encode
no_name word args none =
    unnamed readers word args (no_texts readers word none ((refl, refl), ((refl, refl), ((refl, refl), ((refl, refl), ((refl, refl), ((refl, refl), ((refl, refl), ((refl, refl), ((refl, refl), ((refl, refl), ((refl, refl), tt))))))))))))
