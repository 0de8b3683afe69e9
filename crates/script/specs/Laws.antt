-- What the definitions of a script's text come to. Assumes nothing.
use Rattle.std.specs.Prelude.{◌≡◌, ℕ, ◌^◌, ◌<◌, ◌≢◌, List, [], ◌∷◌, ◌++◌, length, Some, None, codes, decimal}
use Rattle.std.specs.List.{flat_map, AllByRecursion}
use Rattle.script.specs.declared.commands.Style.TheVariants.{Flash}
use Rattle.script.specs.declared.commands.Command.TheVariants.{Part, Power}
use Rattle.script.specs.Text.{lines_of, words_of, cleaned_text}
use Rattle.script.specs.Words.{number_of, bytes_in, hex_text}
use Rattle.script.specs.Commands.{command_of}

-- A text without a byte.
abbrev pub Lacks : ℕ → List ℕ → Type 0
Lacks c xs = AllByRecursion (λ x. x ≢ c) xs

pub record ScriptLaws : Type 0 where
  -- a script of lines that byte 10 ends has those lines
  pub lines : (ls : List (List ℕ)) → AllByRecursion (Lacks 10) ls → lines_of (flat_map (λ l. l ++ (10 ∷ [])) ls) ≡ ls
  -- a line of words with a space between has those words
  pub words : (w : List ℕ) (ws : List (List ℕ)) → Lacks 32 w → AllByRecursion (Lacks 32) ws → words_of (w ++ flat_map (λ x. 32 ∷ x) ws) ≡ w ∷ ws
  -- bytes and numbers that were printed are read back
  pub bytes : (bs : List ℕ) → AllByRecursion (λ b. b < 256) bs → bytes_in (length bs) (hex_text bs) ≡ Some bs
  pub numbers : (n : ℕ) → n < 2 ^ 64 → number_of (decimal n) ≡ Some n

-- Some lines, as they are read.
pub record Examples : Type 0 where
  pub cleaned : cleaned_text (codes "  off\t# for the night") ≡ codes "off"
  pub part : command_of (codes "part flash 0012") ≡ Some (Part Flash 12)
  pub power : command_of (codes "power 0xffffffff 2") ≡ Some (Power 4294967295 2)
  pub too_great : command_of (codes "power 4294967296 2") ≡ None
  pub upper : command_of (codes "read 0xA") ≡ None
  pub no_digit : command_of (codes "read 0x") ≡ None
  pub missing : command_of (codes "read") ≡ None
  pub empty_word : command_of (codes "read  1") ≡ None
  pub surplus : command_of (codes "off now") ≡ None
  pub unknown : command_of (codes "offs") ≡ None
