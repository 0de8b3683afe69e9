-- One line more of a script. Assumes nothing.
use Rattle.std.proofs.Common.{◌≡◌, ℕ, false, cond, eqb, List, [], ◌∷◌, ◌++◌, length, is_ok, IfOk, Ok, Err, Option, Result, sym, ap, ◌∙◌, append_assoc, append-nil}
use Rattle.std.proofs.lemmas.Bool.{cond-false}
use Rattle.script.specs.declared.commands.Command.{Command}
use Rattle.script.specs.Commands.{command_of}
use Rattle.reply.specs.Replies.{Said, line_text}
use Rattle.script.specs.Text.{lines_of, cleaned_text, first_word}
use Rattle.rig.specs.Desk.{Desk}
use Rattle.rig.specs.Transcript.{obeying, line_done, lines_done}

pub anyway : {E : Type 0} (r : Result (Unit {0}) E) (P : Type 0) → P → IfOk r (λ _. P)
anyway (Ok u) P p = p
anyway (Err e) P p = tt

pub if_printed : {E : Type 0} (r : Result (Unit {0}) E) (old new text : List ℕ) → new ≡ cond (is_ok r) (old ++ text) old → IfOk r (λ _. new ≡ old ++ text)
if_printed (Ok u) old new text e = e
if_printed (Err f) old new text e = tt

module _ (d : Desk) (line : List ℕ) (some : eqb (length line) 0 ≡ false) (c : Option Command) (is : c ≡ command_of line) where
  pub text_of_line : (name : List ℕ) (s : Said) → name ≡ first_word line → s ≡ (obeying d c).0 → line_text name s ≡ (line_done d line).0
  unfolding line_done
  text_of_line name s n e =
      ap (λ (x : List ℕ). line_text x s) n
      ∙ ap (line_text (first_word line)) (e ∙ ap (λ (o : Option Command). (obeying d o).0) is)
      ∙ sym (ap (λ (o : List ℕ × Desk). o.0) (cond-false (eqb (length line) 0) _ _ some))

  pub line_desk : (obeying d c).1 ≡ (line_done d line).1
  unfolding line_done
  line_desk =
      ap (λ (o : Option Command). (obeying d o).1) is ∙ sym (ap (λ (o : List ℕ × Desk). o.1) (cond-false (eqb (length line) 0) _ _ some))

-- What was printed and what the rest prints is all that there is to print; and so for what is left on the bench.
pub record SoFar (start : Desk) (all : List (List ℕ)) (old out : List ℕ) (now : Desk) (rest : List (List ℕ)) : Type 0 where
  pub text : out ++ (lines_done now rest).0 ≡ old ++ (lines_done start all).0
  pub desk : (lines_done now rest).1 ≡ (lines_done start all).1

module _ (start : Desk) (all : List (List ℕ)) (old out : List ℕ) (d : Desk) (rest : List (List ℕ)) (s : SoFar start all old out d rest) where
  pub one_more : (l : List ℕ) (more : List (List ℕ)) (new : List ℕ) (next : Desk) → rest ≡ l ∷ more → new ≡ out ++ (line_done d (cleaned_text l)).0 → next ≡ (line_done d (cleaned_text l)).1 → SoFar start all old new next more
  unfolding lines_done
  one_more l more new next e t k =
      let a : lines_done d (l ∷ more) ≡ lines_done d rest = ap (lines_done d) (sym e) in
      record {
        text =
            ap (λ (x : List ℕ). x ++ (lines_done next more).0) t
            ∙ append_assoc out (line_done d (cleaned_text l)).0 (lines_done next more).0
            ∙ ap (λ (x : Desk). out ++ ((line_done d (cleaned_text l)).0 ++ (lines_done x more).0)) k
            ∙ ap (λ (o : List ℕ × Desk). out ++ o.0) a
            ∙ s.text;
        desk = ap (λ (x : Desk). (lines_done x more).1) k ∙ ap (λ (o : List ℕ × Desk). o.1) a ∙ s.desk;
      }

  pub no_more : rest ≡ [] → (out ≡ old ++ (lines_done start all).0) × (d ≡ (lines_done start all).1)
  unfolding lines_done
  no_more e =
      let a : lines_done d [] ≡ lines_done d rest = ap (lines_done d) (sym e) in
      (sym (append-nil out) ∙ ap (λ (o : List ℕ × Desk). out ++ o.0) a ∙ s.text, ap (λ (o : List ℕ × Desk). o.1) a ∙ s.desk)

pub no_lines : (script : List ℕ) → script ≡ [] → lines_of script ≡ []
unfolding lines_of
no_lines script e = ap lines_of e
