-- The entry tells what an end reads. Assumes nothing.
use Rattle.std.proofs.Common.{◌≡◌, ℕ, suc, eqb, List, [], ◌∷◌, length, drop, Some, None, Ok, Option, sym, ap, ◌∙◌}
use Rattle.std.proofs.lemmas.Bool.{cond-true, eq-eqb, eqb-true}
use Rattle.messages.specs.declared.kind.End.{End}
use Rattle.messages.specs.declared.kind.Kind.{Kind}
use Rattle.messages.specs.Kinds.{about, kind_by}
use Rattle.messages.specs.Wire.{Said, kind_of, said_by}
use Rattle.messages.specs.Codec.{reading_as, reading}
use Rattle.messages.specs.Entry.{of_length, whole_kind, shown_kind, kind_answer, EntryLaws}
use Rattle.messages.proofs.Takes.{takes_kind, passed}
use Rattle.messages.proofs.Trips.{named, kind-said, own_end, taken}

tells : (end : End) (bs : List ℕ) (s : Said) → reading end bs ≡ Ok s → kind_answer bs ≡ (about (kind_of s)).number
tells end bs s e =
    let t = taken end bs s e in
    let k = t.kind in
    let n = suc (length t.rest) in
    ap kind_answer t.bytes
    ∙ ap (λ (o : Option Kind). shown_kind (of_length o n)) (named k)
    ∙ ap shown_kind (cond-true (eqb n (about k).bytes) _ _ (eq-eqb n (about k).bytes t.fits))
    ∙ ap (λ (j : Kind). (about j).number) (sym (kind-said k t.rest) ∙ ap kind_of t.says)

read_as : (k : Kind) (rest : List ℕ) (o : Option Kind) → of_length o (suc (length rest)) ≡ Ok k → reading_as (about k).reader o rest ≡ Ok (said_by k rest)
read_as k rest None e = absurd (cc)
read_as k rest (Some j) e =
    let fits = passed (eqb (suc (length rest)) (about j).bytes) (Ok j) _ k e in
    let same : j ≡ k = (let e' = fits.1 in cc) in
    ap (λ (i : Kind). reading_as (about k).reader (Some i) rest) same
    ∙ takes_kind (about k).reader k rest (own_end (about k).reader) (eqb-true (suc (length rest)) (about j).bytes fits.0 ∙ ap (λ (i : Kind). (about i).bytes) same)

reads : (bs : List ℕ) (k : Kind) → whole_kind bs ≡ Ok k → reading (about k).reader bs ≡ Ok (said_by k (drop 1 bs))
reads [] k e = absurd (cc)
reads (n ∷ rest) k e = read_as k rest (kind_by n) e

pub entry_laws : EntryLaws
entry_laws = record { tells = tells; reads = reads }
