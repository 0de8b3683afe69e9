-- What is written reads back, and what reads writes back. Assumes nothing.
use Rattle.std.specs.Prelude.{◌≡◌, ℕ, ◌^◌, ◌<◌, List, length, take, IfOk, Ok, Result}
use Rattle.std.specs.Int.Digits.{AllBelowBase}
use Rattle.base.specs.declared.Fault.{Fault}
use Rattle.messages.specs.declared.kind.End.{End}
use Rattle.messages.specs.Kinds.{about}
use Rattle.messages.specs.Wire.{Said, get_status, respond_status, update, reset, row, close, update_confirm, update_fail, reset_confirm, abort, kind_of, bytes_of}
use Rattle.messages.specs.Codec.{reading}

-- Fields that have their widths.
pub record WholeStatus (v : ℕ) (i : List ℕ) (c o : ℕ) (t : List ℕ) : Type 0 where
  pub version : v < 2 ^ 64
  pub identity : length i ≡ 12
  pub count : c < 2 ^ 32
  pub other : o < 2 ^ 64
  pub tag : length t ≡ 8

pub record WholeClose (v : ℕ) (t : List ℕ) : Type 0 where
  pub version : v < 2 ^ 64
  pub tag : length t ≡ 8

-- A message whose fields have their widths, as the types of the code give them to every `Message`.
abbrev pub Whole : Said → Type 0
Whole (get_status v i l n t) = WholeStatus v i l n t
Whole (respond_status v i c s t) = WholeStatus v i c s t
Whole (update t) = length t ≡ 8
Whole (reset t) = length t ≡ 8
Whole (row r) = length r ≡ 64
Whole (close v t) = WholeClose v t
Whole (update_confirm t) = length t ≡ 8
Whole (update_fail t) = length t ≡ 8
Whole (reset_confirm t) = length t ≡ 8
Whole abort = Unit {0}

-- What was written reads back at the end that it is for: the answer is its length, and the area holds it in front.
abbrev pub ReadsBack : Said → Result ℕ Fault → List ℕ → Type 0
ReadsBack s answer area = IfOk answer (λ n. reading (about (kind_of s)).reader (take n area) ≡ Ok s)

-- What was read writes back to the same bytes.
abbrev pub WritesBack : Result Said Fault → List ℕ → Type 0
WritesBack answer bs = IfOk answer (λ s. bytes_of s ≡ bs)

-- The same of every message and of all bytes.
pub record RoundTrips : Type 0 where
  -- a message's bytes are as many as its kind has
  pub size : (s : Said) → Whole s → length (bytes_of s) ≡ (about (kind_of s)).bytes
  -- what is written reads back at the end that it is for
  pub back : (s : Said) → Whole s → reading (about (kind_of s)).reader (bytes_of s) ≡ Ok s
  -- what reads, at any end, writes back to the same bytes
  pub same : (end : End) (bs : List ℕ) (s : Said) → AllBelowBase 256 bs → reading end bs ≡ Ok s → bytes_of s ≡ bs
  -- and has its widths
  pub whole : (end : End) (bs : List ℕ) (s : Said) → AllBelowBase 256 bs → reading end bs ≡ Ok s → Whole s
