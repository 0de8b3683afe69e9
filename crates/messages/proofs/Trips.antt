-- Both round trips. Assumes nothing.
use Rattle.std.proofs.Common.{◌≡◌, ℕ, suc, ◌+◌, ◌^◌, ◌<◌, ◌≤◌, Bool, true, false, cond, eqb, List, [], ◌∷◌, ◌++◌, length, get_or, take, drop, Some, None, Ok, Err, Option, Result, ◌==◌, sym, refl, ap, ◌∙◌, subst, arith, w8, Fits}
use Rattle.std.proofs.lemmas.Int.Digits.{number_lt}
use Rattle.std.proofs.ByRecursion.{All-from_get_or, All-take, All-drop}
use Rattle.std.proofs.lemmas.List.{length-append, length-drop, take_all, take_at, drop_at, drop-drop, take-append-drop, length-take-le, nil_from_length}
use Rattle.std.proofs.lemmas.Bool.{eqb-true}
use Rattle.std.specs.Int.Digits.{AllBelowBase}
use Rattle.std.specs.List.{find}
use Rattle.base.proofs.Bytes.{length-big_endian, leading-big_endian, big_endian-leading}
use Rattle.base.specs.declared.Fault.{Fault}
use Rattle.base.specs.Numbers.{leading, big_endian}
use Rattle.messages.specs.declared.kind.End.{End}
use Rattle.messages.specs.declared.kind.End.TheVariants.{Terminal, Server}
use Rattle.messages.specs.declared.kind.Kind.{Kind}
use Rattle.messages.specs.declared.kind.Kind.TheVariants.{GetStatus, RespondStatus, Update, Reset, Row, Close, UpdateConfirm, UpdateFail, ResetConfirm, Abort}
use Rattle.messages.specs.Kinds.{about, kind_by, kinds, same_end}
use Rattle.messages.specs.Wire.{Said, get_status, respond_status, update, reset, row, close, update_confirm, update_fail, reset_confirm, abort, kind_of, part, number_at, status, said_by, fields_of, bytes_of}
use Rattle.messages.specs.Codec.{reading_as, reading, written}
use Rattle.messages.specs.Trips.{WholeStatus, Whole, WritesBack, RoundTrips}
use Rattle.messages.proofs.Takes.{takes_kind, passed}

-- A kind's number leads back to it.
pub named : (k : Kind) → kind_by (about k).number ≡ Some k
named GetStatus = refl
named RespondStatus = refl
named Update = refl
named Reset = refl
named Row = refl
named Close = refl
named UpdateConfirm = refl
named UpdateFail = refl
named ResetConfirm = refl
named Abort = refl

-- A kind that a number names has that number.
numbered : (ks : List Kind) (n : ℕ) (k : Kind) → find (λ i. n == (about i).number) ks ≡ Some k → (about k).number ≡ n
numbered [] n k e = absurd (cc)
numbered (j ∷ ks) n k e = by (eqb n (about j).number) refl (numbered ks n k) e
  where
    by : (b : Bool) → eqb n (about j).number ≡ b → (find (λ i. n == (about i).number) ks ≡ Some k → (about k).number ≡ n) → cond b (Some j) (find (λ i. n == (about i).number) ks) ≡ Some k → (about k).number ≡ n
    by true t later f = let same : j ≡ k = cc in ap (λ (i : Kind). (about i).number) (sym same) ∙ sym (eqb-true n (about j).number t)
    by false t later f = later f

pub own_end : (e : End) → same_end e e ≡ true
own_end Terminal = refl
own_end Server = refl

pub kind-said : (k : Kind) (rest : List ℕ) → kind_of (said_by k rest) ≡ k
kind-said GetStatus rest = refl
kind-said RespondStatus rest = refl
kind-said Update rest = refl
kind-said Reset rest = refl
kind-said Row rest = refl
kind-said Close rest = refl
kind-said UpdateConfirm rest = refl
kind-said UpdateFail rest = refl
kind-said ResetConfirm rest = refl
kind-said Abort rest = refl

part-long : (at n : ℕ) (bs : List ℕ) → at + n ≤ length bs → length (part at n bs) ≡ n
part-long at n bs h = length-take-le n (drop at bs) (simp length-drop (omega arith))

-- From what is said to bytes and back.

status-size : (v : ℕ) (i : List ℕ) (c o : ℕ) (t : List ℕ) → WholeStatus v i c o t → suc (length (status v i c o t)) ≡ 41
status-size v i c o t w = simp length-append (omega (arith, length-big_endian 8 v, length-big_endian 4 c, length-big_endian 8 o, w.identity, w.tag))

size : (s : Said) → Whole s → length (bytes_of s) ≡ (about (kind_of s)).bytes
size (get_status v i l n t) w = status-size v i l n t w
size (respond_status v i c s t) w = status-size v i c s t w
size (update t) w = ap (λ (n : ℕ). suc n) w
size (reset t) w = ap (λ (n : ℕ). suc n) w
size (row r) w = ap (λ (n : ℕ). suc n) w
size (close v t) w = simp length-append (omega (arith, length-big_endian 8 v, w.tag))
size (update_confirm t) w = ap (λ (n : ℕ). suc n) w
size (update_fail t) w = ap (λ (n : ℕ). suc n) w
size (reset_confirm t) w = ap (λ (n : ℕ). suc n) w
size abort w = refl

-- Past a field, and more.
past : (p r : List ℕ) (n k : ℕ) → length p ≡ n → drop (n + k) (p ++ r) ≡ drop k r
past p r n k l = sym (drop-drop k n (p ++ r)) ∙ ap (drop k) (drop_at p r n l)

-- The fields of a status message, each at its place.
record Fields (rest : List ℕ) (v : ℕ) (i : List ℕ) (c o : ℕ) (t : List ℕ) : Type 0 where
  version : number_at 0 8 rest ≡ v
  identity : part 8 12 rest ≡ i
  count : number_at 20 4 rest ≡ c
  other : number_at 24 8 rest ≡ o
  tag : part 32 8 rest ≡ t

status-fields : (v : ℕ) (i : List ℕ) (c o : ℕ) (t : List ℕ) → WholeStatus v i c o t → Fields (status v i c o t) v i c o t
status-fields v i c o t w =
    let V = big_endian 8 v in
    let C = big_endian 4 c in
    let O = big_endian 8 o in
    let after-version = λ (k : ℕ). past V (i ++ (C ++ (O ++ t))) 8 k (length-big_endian 8 v) in
    let after-identity = λ (k : ℕ). after-version (12 + k) ∙ past i (C ++ (O ++ t)) 12 k w.identity in
    let after-count = λ (k : ℕ). after-identity (4 + k) ∙ past C (O ++ t) 4 k (length-big_endian 4 c) in
    let after-other = λ (k : ℕ). after-count (8 + k) ∙ past O t 8 k (length-big_endian 8 o) in
    record {
      version = leading-big_endian 8 v (i ++ (C ++ (O ++ t))) w.version;
      identity = ap (take 12) (after-version 0) ∙ take_at i (C ++ (O ++ t)) 12 w.identity;
      count = ap (leading 4) (after-identity 0) ∙ leading-big_endian 4 c (O ++ t) w.count;
      other = ap (leading 8) (after-count 0) ∙ leading-big_endian 8 o t w.other;
      tag = ap (take 8) (after-other 0) ∙ take_all 8 t (omega (arith, w.tag));
    }

said-back : (s : Said) → Whole s → said_by (kind_of s) (fields_of s) ≡ s
said-back (get_status v i l n t) w = let f = status-fields v i l n t w in cc
said-back (respond_status v i c s t) w = let f = status-fields v i c s t w in cc
said-back (update t) w = ap update (take_all 8 t (omega arith))
said-back (reset t) w = ap reset (take_all 8 t (omega arith))
said-back (row r) w = ap row (take_all 64 r (omega arith))
said-back (close v t) w =
    let version : number_at 0 8 (big_endian 8 v ++ t) ≡ v = leading-big_endian 8 v t w.version in
    let tag : part 8 8 (big_endian 8 v ++ t) ≡ t = ap (take 8) (drop_at (big_endian 8 v) t 8 (length-big_endian 8 v)) ∙ take_all 8 t (omega (arith, w.tag)) in
    cc
said-back (update_confirm t) w = ap update_confirm (take_all 8 t (omega arith))
said-back (update_fail t) w = ap update_fail (take_all 8 t (omega arith))
said-back (reset_confirm t) w = ap reset_confirm (take_all 8 t (omega arith))
said-back abort w = refl

back : (s : Said) → Whole s → reading (about (kind_of s)).reader (bytes_of s) ≡ Ok s
back s w =
    ap (λ (o : Option Kind). reading_as (about (kind_of s)).reader o (fields_of s)) (named (kind_of s))
    ∙ takes_kind (about (kind_of s)).reader (kind_of s) (fields_of s) (own_end (about (kind_of s)).reader) (size s w)
    ∙ ap (λ (u : Said). Ok u) (said-back s w)

-- From bytes to what is said and back.

number-part : (at n : ℕ) (rest : List ℕ) → at + n ≤ length rest → AllBelowBase 256 rest → big_endian n (number_at at n rest) ≡ part at n rest
number-part at n rest h u = big_endian-leading n (drop at rest) (simp length-drop (omega arith)) (All-drop (λ b. b < 256) at rest u)

number_fits : (at n : ℕ) (rest : List ℕ) → at + n ≤ length rest → AllBelowBase 256 rest → number_at at n rest < 256 ^ n
number_fits at n rest h u =
    let long : length (part at n rest) ≡ n = part-long at n rest h in
    subst (λ k. number_at at n rest < 256 ^ k) long (number_lt 256 (part at n rest) (All-take (λ b. b < 256) n (drop at rest) (All-drop (λ b. b < 256) at rest u)))

-- A part and what follows it.
onto : (at n : ℕ) (xs : List ℕ) → part at n xs ++ drop (at + n) xs ≡ drop at xs
onto at n xs = ap (λ (z : List ℕ). part at n xs ++ z) (sym (drop-drop n at xs)) ∙ take-append-drop n (drop at xs)

-- The last part.
end_part : (at n : ℕ) (xs : List ℕ) → length xs ≡ at + n → part at n xs ≡ drop at xs
end_part at n xs h = take_all n (drop at xs) (simp length-drop (omega arith))

status-same : (rest : List ℕ) → length rest ≡ 40 → AllBelowBase 256 rest → status (number_at 0 8 rest) (part 8 12 rest) (number_at 20 4 rest) (number_at 24 8 rest) (part 32 8 rest) ≡ rest
status-same rest l u =
    let version = number-part 0 8 rest (omega arith) u in
    let count = number-part 20 4 rest (omega arith) u in
    let other = number-part 24 8 rest (omega arith) u in
    let tag = end_part 32 8 rest l in
    rw (version, count, other, tag, onto 24 8 rest, onto 20 4 rest, onto 8 12 rest) (take-append-drop 8 rest)

close-same : (rest : List ℕ) → length rest ≡ 16 → AllBelowBase 256 rest → big_endian 8 (number_at 0 8 rest) ++ part 8 8 rest ≡ rest
close-same rest l u =
    let version = number-part 0 8 rest (omega arith) u in
    let tag = end_part 8 8 rest l in
    rw (version, tag) (take-append-drop 8 rest)

fields-same : (k : Kind) (rest : List ℕ) → suc (length rest) ≡ (about k).bytes → AllBelowBase 256 rest → fields_of (said_by k rest) ≡ rest
fields-same GetStatus rest l u = status-same rest (omega arith) u
fields-same RespondStatus rest l u = status-same rest (omega arith) u
fields-same Update rest l u = take_all 8 rest (omega arith)
fields-same Reset rest l u = take_all 8 rest (omega arith)
fields-same Row rest l u = take_all 64 rest (omega arith)
fields-same Close rest l u = close-same rest (omega arith) u
fields-same UpdateConfirm rest l u = take_all 8 rest (omega arith)
fields-same UpdateFail rest l u = take_all 8 rest (omega arith)
fields-same ResetConfirm rest l u = take_all 8 rest (omega arith)
fields-same Abort rest l u = sym (nil_from_length rest (omega arith))

status-whole : (rest : List ℕ) → length rest ≡ 40 → AllBelowBase 256 rest → WholeStatus (number_at 0 8 rest) (part 8 12 rest) (number_at 20 4 rest) (number_at 24 8 rest) (part 32 8 rest)
status-whole rest l u =
    record {
      version = number_fits 0 8 rest (omega arith) u;
      identity = part-long 8 12 rest (omega arith);
      count = number_fits 20 4 rest (omega arith) u;
      other = number_fits 24 8 rest (omega arith) u;
      tag = part-long 32 8 rest (omega arith);
    }

said-whole : (k : Kind) (rest : List ℕ) → suc (length rest) ≡ (about k).bytes → AllBelowBase 256 rest → Whole (said_by k rest)
said-whole GetStatus rest l u = status-whole rest (omega arith) u
said-whole RespondStatus rest l u = status-whole rest (omega arith) u
said-whole Update rest l u = part-long 0 8 rest (omega arith)
said-whole Reset rest l u = part-long 0 8 rest (omega arith)
said-whole Row rest l u = part-long 0 64 rest (omega arith)
said-whole Close rest l u = record { version = number_fits 0 8 rest (omega arith) u; tag = part-long 8 8 rest (omega arith) }
said-whole UpdateConfirm rest l u = part-long 0 8 rest (omega arith)
said-whole UpdateFail rest l u = part-long 0 8 rest (omega arith)
said-whole ResetConfirm rest l u = part-long 0 8 rest (omega arith)
said-whole Abort rest l u = tt

-- What was read, by its kind.
pub record Taken (bs : List ℕ) (s : Said) : Type 0 where
  pub kind : Kind
  pub rest : List ℕ
  pub bytes : bs ≡ (about kind).number ∷ rest
  pub fits : suc (length rest) ≡ (about kind).bytes
  pub says : said_by kind rest ≡ s

taken_as : (end : End) (n : ℕ) (rest : List ℕ) (s : Said) (o : Option Kind) → kind_by n ≡ o → reading_as end o rest ≡ Ok s → Taken (n ∷ rest) s
taken_as end n rest s None names e = absurd (cc)
taken_as end n rest s (Some k) names e =
    let here = passed (same_end end (about k).reader) _ _ s e in
    let long = passed (eqb (suc (length rest)) (about k).bytes) (Ok (said_by k rest)) _ s here.1 in
    record {
      kind = k;
      rest = rest;
      bytes = ap (λ (m : ℕ). m ∷ rest) (sym (numbered kinds n k names));
      fits = eqb-true (suc (length rest)) (about k).bytes long.0;
      says = (let e' = long.1 in cc);
    }

pub taken : (end : End) (bs : List ℕ) (s : Said) → reading end bs ≡ Ok s → Taken bs s
taken end [] s e = absurd (cc)
taken end (n ∷ rest) s e = taken_as end n rest s (kind_by n) refl e

under_rest : (bs : List ℕ) (n : ℕ) (rest : List ℕ) → bs ≡ n ∷ rest → AllBelowBase 256 bs → AllBelowBase 256 rest
under_rest bs n rest e u = subst (λ xs. AllBelowBase 256 xs) (ap (drop 1) e) (All-drop (λ b. b < 256) 1 bs u)

same : (end : End) (bs : List ℕ) (s : Said) → AllBelowBase 256 bs → reading end bs ≡ Ok s → bytes_of s ≡ bs
same end bs s u e =
    let t = taken end bs s e in
    let u' = under_rest bs (about t.kind).number t.rest t.bytes u in
    ap bytes_of (sym t.says)
    ∙ ap (λ (k : Kind). (about k).number ∷ fields_of (said_by t.kind t.rest)) (kind-said t.kind t.rest)
    ∙ ap (λ (xs : List ℕ). (about t.kind).number ∷ xs) (fields-same t.kind t.rest t.fits u')
    ∙ sym t.bytes

whole : (end : End) (bs : List ℕ) (s : Said) → AllBelowBase 256 bs → reading end bs ≡ Ok s → Whole s
whole end bs s u e =
    let t = taken end bs s e in
    subst Whole t.says (said-whole t.kind t.rest t.fits (under_rest bs (about t.kind).number t.rest t.bytes u))

pub round_trips : RoundTrips
round_trips = record { size = size; back = back; same = same; whole = whole }

-- Of one call: a message at the front of an area reads back.
pub reads_back : (s : Said) (area area' : List ℕ) → Whole s → area' ≡ written s area → reading (about (kind_of s)).reader (take (about (kind_of s)).bytes area') ≡ Ok s
reads_back s area area' w e =
    ap (λ (xs : List ℕ). reading (about (kind_of s)).reader (take (about (kind_of s)).bytes xs)) e
    ∙ ap (reading (about (kind_of s)).reader) (take_at (bytes_of s) (drop (about (kind_of s)).bytes area) (about (kind_of s)).bytes (size s w))
    ∙ back s w

-- Of one call: what was read writes back. Bytes of the code are below 256.
pub writes_back : (end : End) (bs : List ℕ) (r : Result Said Fault) → ((i : ℕ) → Fits w8 (get_or bs i 0)) → r ≡ reading end bs → WritesBack r bs
writes_back end bs (Ok s) typed e = same end bs s (All-from_get_or (λ b. b < 256) bs 0 (λ i h. (typed i).fits)) (sym e)
writes_back end bs (Err f) typed e = tt
