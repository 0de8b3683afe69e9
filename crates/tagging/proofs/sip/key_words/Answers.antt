use Rattle.std.proofs.Common.{◌≡◌, get_or, take, drop, [], ap, ◌∙◌, arith, length-drop}
use Rattle.std.proofs.lemmas.List.{length-take-le}
use Rattle.std.specs.Int.{w64, from_le_bytes}
use Rattle.tagging.specs.Words.{low_first}
use Rattle.tagging.proofs.Absorbing.{key-words}
use Rattle.tagging.proofs.Numbers.{low_eight}
use Rattle.tagging.proofs.sip.key_words.Goals as goal

pub returns : goal.returns
returns c =
    let key = c.args.key.now in
    let words = key-words key c.as_chunks.result.0.now c.told-key c.as_chunks.ensures.front in
    let first : c.from_le_bytes.result ≡ low_first (take 8 key) =
    c.from_le_bytes.ensures ∙ ap (λ ws. from_le_bytes w64 (get_or ws 0 [])) words ∙ low_eight (take 8 key) (length-take-le 8 key (omega arith)) in
    let second : c.from_le_bytes-2.result ≡ low_first (take 8 (drop 8 key)) =
    c.from_le_bytes-2.ensures ∙ ap (λ ws. from_le_bytes w64 (get_or ws 1 [])) words ∙ low_eight (take 8 (drop 8 key)) (length-take-le 8 (drop 8 key) (simp length-drop (omega arith))) in cc
