-- SipHash-2-4, as its paper defines it. Assumes nothing.
use Rattle.std.specs.Prelude.{ℕ, zero, suc, ◌+◌, ◌-◌, ◌/◌, ◌%◌, List, [], ◌∷◌, ◌++◌, length, take, drop, replicate, bit_xor}
use Rattle.tagging.specs.declared.sip.State.{State}
use Rattle.tagging.specs.Words.{add64, turned, low_first, word_bytes}

-- The first half of a round: v0 += v1, v2 += v3, v1 <<<= 13, v3 <<<= 16, v1 ^= v0, v3 ^= v2, v0 <<<= 32.
abbrev pub first_half : State → State
first_half s = record {
  v0 = turned (add64 s.v0 s.v1) 32;
  v1 = bit_xor (turned s.v1 13) (add64 s.v0 s.v1);
  v2 = add64 s.v2 s.v3;
  v3 = bit_xor (turned s.v3 16) (add64 s.v2 s.v3);
}

-- The second half: v2 += v1, v0 += v3, v1 <<<= 17, v3 <<<= 21, v1 ^= v2, v3 ^= v0, v2 <<<= 32.
abbrev pub second_half : State → State
second_half s = record {
  v0 = add64 s.v0 s.v3;
  v1 = bit_xor (turned s.v1 17) (add64 s.v2 s.v1);
  v2 = turned (add64 s.v2 s.v1) 32;
  v3 = bit_xor (turned s.v3 21) (add64 s.v0 s.v3);
}

unfoldable pub sip_round : State → State
sip_round s = second_half (first_half s)

-- The key's two words on the four constants.
abbrev pub started : List ℕ → State
started key = record {
  v0 = bit_xor (low_first (take 8 key)) 0x736f6d6570736575;
  v1 = bit_xor (low_first (take 8 (drop 8 key))) 0x646f72616e646f6d;
  v2 = bit_xor (low_first (take 8 key)) 0x6c7967656e657261;
  v3 = bit_xor (low_first (take 8 (drop 8 key))) 0x7465646279746573;
}

-- One word of the text: onto v3, two rounds, onto v0.
abbrev pub on_third : State → ℕ → State
on_third s m = record { v0 = s.v0; v1 = s.v1; v2 = s.v2; v3 = bit_xor s.v3 m }

abbrev pub on_first : State → ℕ → State
on_first s m = record { v0 = bit_xor s.v0 m; v1 = s.v1; v2 = s.v2; v3 = s.v3 }

unfoldable pub absorbed : State → ℕ → State
absorbed s m = on_first (sip_round (sip_round (on_third s m))) m

-- The first n words of a text, one after the other.
unfoldable pub absorbs : ℕ → State → List ℕ → State
absorbs zero s text = s
absorbs (suc n) s text = absorbs n (absorbed s (low_first (take 8 text))) (drop 8 text)

-- 255 onto v2, four rounds, and the four words joined.
abbrev pub on_second : State → ℕ → State
on_second s m = record { v0 = s.v0; v1 = s.v1; v2 = bit_xor s.v2 m; v3 = s.v3 }

abbrev pub joined : State → ℕ
joined s = bit_xor (bit_xor (bit_xor s.v0 s.v1) s.v2) s.v3

unfoldable pub finished : State → ℕ
finished s = joined (sip_round (sip_round (sip_round (sip_round (on_second s 255)))))

-- What fills a text of n bytes up to whole words, r bytes standing in its last: zeros, and as the last byte n modulo 256.
abbrev pub filling : ℕ → ℕ → List ℕ
filling n r = replicate (7 - r) 0 ++ (n % 256 ∷ [])

unfoldable pub sip_hash : List ℕ → List ℕ → ℕ
sip_hash key text = finished (absorbs (length text / 8 + 1) (started key) (text ++ filling (length text) (length text % 8)))

-- The tag: the word's eight bytes, the lowest first.
unfoldable pub sip_tag : List ℕ → List ℕ → List ℕ
sip_tag key text = word_bytes (sip_hash key text)
