-- What a line holds after a name and a text. Assumes nothing.
use Rattle.std.proofs.Common.{◌≡◌, ℕ, List, ◌++◌, take, ap, ◌∙◌}
use Rattle.std.specs.Fmt.{WritesInCalls}
use Rattle.std.proofs.lemmas.Fmt.{contents_after_writes}
use Rattle.std.proofs.lemmas.List.{append_assoc}
use Rattle.reply.specs.declared.ShortLine.{ShortLine}

pub then_text : (r s t : ShortLine) (name text : List ℕ) → take s.len s.bytes ≡ take r.len r.bytes ++ name → WritesInCalls (λ x bs y. take y.len y.bytes ≡ take x.len x.bytes ++ bs) s text t → take t.len t.bytes ≡ take r.len r.bytes ++ (name ++ text)
then_text r s t name text named wrote =
    contents_after_writes _ (λ l. take l.len l.bytes) (λ x bs y w. w) s text t wrote
    ∙ ap (λ xs. xs ++ text) named
    ∙ append_assoc (take r.len r.bytes) name text
