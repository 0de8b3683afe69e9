-- The worked examples, by computing: each needs the cipher once. Assumes nothing.
use Rattle.std.proofs.Common.{◌≡◌, ℕ, List, [], ◌∷◌, refl, ap, ◌∙◌}
use Rattle.aes.specs.Field.{mul, sbox}
use Rattle.aes.specs.Cipher.{xored, shift_rows, mix_column, mix_columns, turned, next_key, expanded, one_round, last_round, ciphered, aes}
use Rattle.aes.specs.Mac.{zero_block, doubled, subkey1, subkey2, padded, mac_by}
use Rattle.aes.specs.Vectors.{example_key, counted_key, counted_block, example_block, example_text, Vectors}

K1 : List ℕ
K1 = 0xfb ∷ 0xee ∷ 0xd6 ∷ 0x18 ∷ 0x35 ∷ 0x71 ∷ 0x33 ∷ 0x66 ∷ 0x7c ∷ 0x85 ∷ 0xe0 ∷ 0x8f ∷ 0x72 ∷ 0x36 ∷ 0xa8 ∷ 0xde ∷ []

K2 : List ℕ
K2 = 0xf7 ∷ 0xdd ∷ 0xac ∷ 0x30 ∷ 0x6a ∷ 0xe2 ∷ 0x66 ∷ 0xcc ∷ 0xf9 ∷ 0x0b ∷ 0xc1 ∷ 0x1e ∷ 0xe4 ∷ 0x6d ∷ 0x51 ∷ 0x3b ∷ []

cipher_is : aes example_key example_block ≡ 0x39 ∷ 0x25 ∷ 0x84 ∷ 0x1d ∷ 0x02 ∷ 0xdc ∷ 0x09 ∷ 0xfb ∷ 0xdc ∷ 0x11 ∷ 0x85 ∷ 0x97 ∷ 0x19 ∷ 0x6a ∷ 0x0b ∷ 0x32 ∷ []
unfolding mul sbox shift_rows mix_column mix_columns turned next_key expanded one_round last_round ciphered
cipher_is = refl

counted_is : aes counted_key counted_block ≡ 0x69 ∷ 0xc4 ∷ 0xe0 ∷ 0xd8 ∷ 0x6a ∷ 0x7b ∷ 0x04 ∷ 0x30 ∷ 0xd8 ∷ 0xcd ∷ 0xb7 ∷ 0x80 ∷ 0x70 ∷ 0xb4 ∷ 0xc5 ∷ 0x5a ∷ []
unfolding mul sbox shift_rows mix_column mix_columns turned next_key expanded one_round last_round ciphered
counted_is = refl

first_is : subkey1 (aes example_key) ≡ K1
unfolding mul sbox shift_rows mix_column mix_columns turned next_key expanded one_round last_round ciphered doubled K1
first_is = refl

doubled_is : doubled K1 ≡ K2
unfolding doubled K1 K2
doubled_is = refl

second_is : subkey2 (aes example_key) ≡ K2
second_is = ap doubled first_is ∙ doubled_is

-- The last step of each code.
empty_end : aes example_key (xored zero_block (xored (padded []) K2)) ≡ 0xbb ∷ 0x1d ∷ 0x69 ∷ 0x29 ∷ 0xe9 ∷ 0x59 ∷ 0x37 ∷ 0x28 ∷ 0x7f ∷ 0xa3 ∷ 0x7d ∷ 0x12 ∷ 0x9b ∷ 0x75 ∷ 0x67 ∷ 0x46 ∷ []
unfolding mul sbox shift_rows mix_column mix_columns turned next_key expanded one_round last_round ciphered K2
empty_end = refl

sixteen_end : aes example_key (xored zero_block (xored example_text K1)) ≡ 0x07 ∷ 0x0a ∷ 0x16 ∷ 0xb4 ∷ 0x6b ∷ 0x4d ∷ 0x41 ∷ 0x44 ∷ 0xf7 ∷ 0x9b ∷ 0xdd ∷ 0x9d ∷ 0xd0 ∷ 0x4a ∷ 0x28 ∷ 0x7c ∷ []
unfolding mul sbox shift_rows mix_column mix_columns turned next_key expanded one_round last_round ciphered K1
sixteen_end = refl

pub vectors : Vectors
unfolding mac_by K1 K2
vectors = record {
  cipher = cipher_is;
  counted = counted_is;
  first = first_is;
  second = second_is;
  empty = ap (λ (k : List ℕ). aes example_key (xored zero_block (xored (padded []) k))) second_is ∙ empty_end;
  sixteen = ap (λ (k : List ℕ). aes example_key (xored zero_block (xored example_text k))) first_is ∙ sixteen_end;
}
