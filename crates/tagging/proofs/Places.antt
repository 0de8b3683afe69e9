-- A tag in the middle of an area. Assumes nothing.
use Rattle.std.proofs.Common.{◌≡◌, ℕ, ◌+◌, ◌-◌, ◌<◌, ◌≤◌, min, ◌⊎◌, List, [], ◌++◌, length, take, drop, Ok, Err, Result, sym, ap, ◌∙◌, inl, inr, arith, length-drop, drop-drop}
use borrow.Rule.Slice.PartMut.{put_mid, put_same}
use Rattle.std.proofs.lemmas.List.{take_all, drop_all, append-nil}
use Rattle.std.proofs.lemmas.Slice.{between_to_end}
use Rattle.std.proofs.lemmas.Bool.{cases_lt}
use Rattle.base.specs.Work.{after}
use Rattle.tagging.specs.Tags.{tag_first, tag_from}

-- A place beyond the end is as good as the end.
record Same (p s : ℕ) (xs : List ℕ) : Type 0 where
  front : take s xs ≡ take p xs
  back : drop s xs ≡ drop p xs

at_start : (p s : ℕ) (xs : List ℕ) → s ≡ min p (length xs) → (p < length xs) ⊎ (length xs ≤ p) → Same p s xs
at_start p s xs e (inl h) =
    let same : s ≡ p = omega arith in
    record { front = ap (λ (n : ℕ). take n xs) same; back = ap (λ (n : ℕ). drop n xs) same }
at_start p s xs e (inr h) =
    let k : length xs ≤ s = omega arith in
    record { front = take_all s xs k ∙ sym (take_all p xs h); back = drop_all s xs k ∙ sym (drop_all p xs h) }

pub part_length : (p s : ℕ) (xs : List ℕ) → s ≡ min p (length xs) → length (take (length xs - s) (drop s xs)) ≡ length xs - p
part_length p s xs e =
    ap length (between_to_end xs s (length xs) (omega arith)) ∙ length-drop s xs ∙ omega arith

pub part_put : {T E : Type 0} (r : Result T E) (p s : ℕ) (tag xs ys : List ℕ) → s ≡ min p (length xs)
    → ys ≡ after r (tag_first tag (take (length xs - s) (drop s xs))) (take (length xs - s) (drop s xs))
    → put_mid s (length xs - s) xs ys ≡ after r (tag_from p tag xs) xs
part_put (Ok _) p s tag xs ys e f =
    let same : Same p s xs = at_start p s xs e (cases_lt p (length xs)) in
    let all : take (length xs - s) (drop s xs) ≡ drop s xs = between_to_end xs s (length xs) (omega arith) in
    let none : drop (length xs - s) (drop s xs) ≡ [] = drop_all (length xs - s) (drop s xs) (simp length-drop (omega arith)) in
    let rest : drop 8 (drop s xs) ≡ drop (p + 8) xs = ap (λ (z : List ℕ). drop 8 z) same.back ∙ drop-drop 8 p xs in
    ap (λ (z : List ℕ). take s xs ++ (ys ++ z)) none
    ∙ ap (λ (z : List ℕ). take s xs ++ z) (append-nil ys ∙ f ∙ ap (tag_first tag) all ∙ ap (λ (z : List ℕ). tag ++ z) rest)
    ∙ ap (λ (z : List ℕ). z ++ (tag ++ drop (p + 8) xs)) same.front
part_put (Err _) p s tag xs ys e f = ap (λ (z : List ℕ). put_mid s (length xs - s) xs z) f ∙ put_same s (length xs - s) xs
