-- The digits of bytes are text. Assumes nothing.
use Rattle.std.proofs.Common.{◌≡◌, ℕ, suc, ◌<◌, ◌/◌, ◌%◌, List, [], ◌∷◌, map, get_or, ap, ◌∙◌, arith}
use Rattle.std.specs.List.{flat_map}
use Rattle.std.specs.Str.{IsAscii}
use Rattle.std.proofs.lemmas.List.Folds.{flat_map-map}
use Rattle.std.proofs.lemmas.Str.Ascii.{IsAscii-nil, IsAscii-cons}
use Rattle.script.specs.Words.{hex_digit, hex_byte, hex_text}

low : (d : ℕ) → d < 16 → hex_digit d < 128
low d h = grind (arith, h)

pub ascii : (bs : List ℕ) → ((i : ℕ) → get_or bs i 0 < 256) → IsAscii (hex_text bs)
ascii [] small = IsAscii-nil
ascii (b ∷ bs) small =
    IsAscii-cons (hex_digit (b / 16)) (hex_digit (b % 16) ∷ hex_text bs) (low (b / 16) (grind (arith, small 0)))
    (IsAscii-cons (hex_digit (b % 16)) (hex_text bs) (low (b % 16) (grind (arith, small 0))) (ascii bs (λ i. small (suc i))))

pub flat : (bs : List ℕ) (pairs : List (List ℕ)) (text : List ℕ) → pairs ≡ map hex_byte bs → text ≡ flat_map (λ x. x) pairs → text ≡ hex_text bs
flat bs pairs text made joined = joined ∙ ap (flat_map (λ x. x)) made ∙ flat_map-map (λ x. x) hex_byte bs
