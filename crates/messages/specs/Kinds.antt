-- The kinds of messages: what is said of each stands here and nowhere else. Assumes nothing.
use Rattle.std.specs.Prelude.{ℕ, Bool, true, false, List, [], ◌∷◌, Option, ◌==◌}
use Rattle.std.specs.List.{find}
use Rattle.base.specs.declared.Layer.{Layer}
use Rattle.base.specs.declared.Layer.TheVariants as layer
use Rattle.messages.specs.declared.kind.End.{End}
use Rattle.messages.specs.declared.kind.End.TheVariants.{Terminal, Server}
use Rattle.messages.specs.declared.kind.Kind.{Kind}
use Rattle.messages.specs.declared.kind.Kind.TheVariants.{GetStatus, RespondStatus, Update, Reset, Row, Close, UpdateConfirm, UpdateFail, ResetConfirm, Abort}

-- A kind's number, the bytes of its messages, the number among them, and the end that reads them.
pub record About : Type 0 where
  pub number : ℕ
  pub bytes : ℕ
  pub reader : End

abbrev pub about : Kind → About
about GetStatus = record { number = 1; bytes = 41; reader = Terminal }
about RespondStatus = record { number = 2; bytes = 41; reader = Server }
about Update = record { number = 3; bytes = 9; reader = Terminal }
about Reset = record { number = 4; bytes = 9; reader = Terminal }
about Row = record { number = 5; bytes = 65; reader = Terminal }
about Close = record { number = 6; bytes = 17; reader = Terminal }
about UpdateConfirm = record { number = 7; bytes = 9; reader = Server }
about UpdateFail = record { number = 8; bytes = 9; reader = Server }
about ResetConfirm = record { number = 9; bytes = 9; reader = Server }
about Abort = record { number = 10; bytes = 1; reader = Server }

-- Every kind.
abbrev pub kinds : List Kind
kinds = GetStatus ∷ RespondStatus ∷ Update ∷ Reset ∷ Row ∷ Close ∷ UpdateConfirm ∷ UpdateFail ∷ ResetConfirm ∷ Abort ∷ []

-- The kind with a number, if there is one.
abbrev pub kind_by : ℕ → Option Kind
kind_by n = find (λ k. n == (about k).number) kinds

-- The layer of an end's own refusals.
abbrev pub layer_of : End → Layer
layer_of Terminal = layer.Terminal
layer_of Server = layer.Server

-- Whether two ends are one.
abbrev pub same_end : End → End → Bool
same_end Terminal Terminal = true
same_end Terminal Server = false
same_end Server Terminal = false
same_end Server Server = true
