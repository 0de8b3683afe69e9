-- How far the counters count. Assumes nothing.
use Rattle.std.specs.Prelude.{ℕ, ◌-◌, ◌*◌, ◌^◌}

-- What a count of 32 bits cannot pass.
abbrev pub register_limit : ℕ
register_limit = 2 ^ 32 - 1

-- The bytes of a flash part's strip, and its bits: what its count cannot pass.
abbrev pub strip_bytes : ℕ
strip_bytes = 512

abbrev pub strip_bits : ℕ
strip_bits = 8 * strip_bytes
