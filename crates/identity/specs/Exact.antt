-- Identities are equal exactly where their bytes are: proofs, which stand here since an `impl` cites only specs/. Assumes nothing.
use Rattle.std.specs.Prelude.{◌≡◌, ℕ, ◌+◌, ◌*◌, ◌/◌, ◌%◌, ◌^◌, true, List, drop, Decides}
use Rattle.std.proofs.Math.Bool.{Bool-set}
use mathlib.Core.HLevel.{is_prop→PathP}
use Rattle.std.proofs.Common.{sym, ap, ◌∙◌, arith}
use Rattle.std.proofs.lemmas.Slice.Eq.{bytes_eq-Decides}
use Rattle.std.proofs.lemmas.Bool.Decides.{Decides-like}
use Rattle.std.specs.Int.Digits.{number_from_digits as number_of}
use Rattle.std.specs.Str.{bytes_eq}
use Rattle.identity.specs.declared.chip.Chip.{Chip}
use Rattle.identity.specs.declared.plate.Plate.{Plate}
use Rattle.identity.specs.Chips.{chip, eight_bytes, chip_bytes}
use Rattle.identity.specs.Plates.{is_plate}

-- Where the bytes tell one from another, the test on them decides.
decided : {X : Type 0} (f : X → List ℕ) (x y : X) → (f x ≡ f y → x ≡ y) → Decides (bytes_eq (f x) (f y)) (x ≡ y)
decided f x y back = Decides-like (bytes_eq (f x) (f y)) back (ap f) (bytes_eq-Decides (f x) (f y))

-- Eight bytes lead back to their number.
eight_back : (n : ℕ) → number_of 256 (eight_bytes n) ≡ n
eight_back n =
    let b : n / 2 ^ 56 * 256 + n / 2 ^ 48 % 256 ≡ n / 2 ^ 48 = omega arith in
    let c : n / 2 ^ 48 * 256 + n / 2 ^ 40 % 256 ≡ n / 2 ^ 40 = omega arith in
    let d : n / 2 ^ 40 * 256 + n / 2 ^ 32 % 256 ≡ n / 2 ^ 32 = omega arith in
    let e : n / 2 ^ 32 * 256 + n / 2 ^ 24 % 256 ≡ n / 2 ^ 24 = omega arith in
    let f : n / 2 ^ 24 * 256 + n / 2 ^ 16 % 256 ≡ n / 2 ^ 16 = omega arith in
    let g : n / 2 ^ 16 * 256 + n / 2 ^ 8 % 256 ≡ n / 2 ^ 8 = omega arith in
    let h : n / 2 ^ 8 * 256 + n % 256 ≡ n = omega arith in
    omega arith

chip-back : (x y : Chip) → chip_bytes x ≡ chip_bytes y → x ≡ y
chip-back x y e =
    ap chip (sym (eight_back x.number) ∙ ap (λ bs. number_of 256 (drop 4 bs)) e ∙ eight_back y.number)

pub chip_exact : (x y : Chip) → Decides (bytes_eq (chip_bytes x) (chip_bytes y)) (x ≡ y)
chip_exact x y = decided chip_bytes x y (chip-back x y)

plate_back : (x y : Plate) → x.bytes ≡ y.bytes → x ≡ y
plate_back x y e j = record { bytes = e j; shape = is_prop→PathP (λ k. is_plate (e k) ≡ true) (λ k. Bool-set _ _) x.shape y.shape j }

pub plate_exact : (x y : Plate) → Decides (bytes_eq x.bytes y.bytes) (x ≡ y)
plate_exact x y = decided (λ (p : Plate). p.bytes) x y (plate_back x y)
