-- A chip's bytes in the words of messages. Assumes nothing.
use Rattle.std.proofs.Common.{◌≡◌, ℕ, ◌/◌, ◌%◌, ◌^◌, ◌<◌, ◌++◌, mod-eq_of_lt, div-one, arith}
use Rattle.base.specs.Numbers.{big_endian}
use Rattle.base.specs.Work.{zeros}
use Rattle.identity.specs.Chips.{chip, chip_bytes}

pub as_written : (n : ℕ) → n < 2 ^ 64 → chip_bytes (chip n) ≡ zeros 4 ++ big_endian 8 n
unfolding big_endian
as_written n h =
    let high : n / 2 ^ 56 % 256 ≡ n / 2 ^ 56 = mod-eq_of_lt (omega arith) in
    let low : n / 1 ≡ n = div-one n in
    cc
