-- The strip of a flash part: a count in cleared bits. Assumes nothing.
use Rattle.std.specs.Prelude.{◌≡◌, ℕ, zero, suc, ◌+◌, ◌-◌, ◌/◌, ◌%◌, ◌^◌, ◌<◌, ◌≤◌, min, cond, List, [], ◌∷◌, length, replicate, ◌==◌, count_ones, nat_lt, slice_index}
use Rattle.cells.specs.Bounds.{strip_bytes, strip_bits}

-- The zero bits of a byte, and of a strip: its count.
abbrev pub zero_bits : ℕ → ℕ
zero_bits b = count_ones (2 ^ 8 - 1 - b)

abbrev pub zeros : List ℕ → ℕ
zeros [] = 0
zeros (b ∷ bs) = zero_bits b + zeros bs

-- A byte of which the k highest bits are cleared.
abbrev pub byte_of : ℕ → ℕ
byte_of k = 2 ^ (8 - k) - 1

-- So many bytes, of which the first n bits are cleared. It stays shut, since 512 bytes are long.
unfoldable pub cleared : ℕ → ℕ → List ℕ
cleared zero n = []
cleared (suc l) n = byte_of (min 8 n) ∷ cleared l (n - 8)

-- A legal strip: 512 bytes whose cleared bits are a prefix.
abbrev pub Legal : List ℕ → Type 0
Legal s = s ≡ cleared strip_bytes (zeros s)

-- A count that rises by one and stays at its limit.
abbrev pub stepped : ℕ → ℕ → ℕ
stepped limit n = cond (nat_lt n limit) (n + 1) n

-- The legal strip after a step.
abbrev pub stepped_strip : List ℕ → List ℕ
stepped_strip s = cleared strip_bytes (stepped strip_bits (zeros s))

-- Bit k of a strip, the highest bit of byte 0 first.
abbrev pub bit_at : List ℕ → ℕ → ℕ
bit_at s k = slice_index s (k / 8) / 2 ^ (7 - k % 8) % 2

-- A new strip, and one that has counted three.
abbrev pub new_strip : List ℕ
new_strip = replicate strip_bytes 255

abbrev pub three_strip : List ℕ
three_strip = 31 ∷ replicate 511 255

-- What one step does to a strip that is not full.
pub record Stepped (s : List ℕ) : Type 0 where
  -- the strip stays legal: the prefix is longer by one
  pub legal : Legal (stepped_strip s)
  pub count : zeros (stepped_strip s) ≡ zeros s + 1
  -- the next bit is cleared, and every other stays
  pub bits : (k : ℕ) → k < strip_bits → bit_at (stepped_strip s) k ≡ cond (k == zeros s) 0 (bit_at s k)

-- What holds of strips.
pub record StripLaws : Type 0 where
  -- a new strip is legal and has counted nothing
  pub new : Legal new_strip × (zeros new_strip ≡ 0)
  -- the count of 512 bytes never passes 4,096
  pub bound : (s : List ℕ) → length s ≡ strip_bytes → zeros s ≤ strip_bits
  -- a legal strip has 512 bytes
  pub size : (s : List ℕ) → Legal s → length s ≡ strip_bytes
  -- the bits cleared are a prefix as long as the count
  pub prefix : (s : List ℕ) → Legal s → (k : ℕ) → k < strip_bits → bit_at s k ≡ cond (nat_lt k (zeros s)) 0 1
  -- 0x1f and 511 bytes of 255: a legal strip that has counted three
  pub three : Legal three_strip × (zeros three_strip ≡ 3)
  pub step : (s : List ℕ) → Legal s → zeros s < strip_bits → Stepped s
  -- a full strip stays as it is
  pub full : (s : List ℕ) → Legal s → zeros s ≡ strip_bits → stepped_strip s ≡ s
