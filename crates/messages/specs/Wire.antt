-- What a message says, and the bytes that say it. Assumes nothing.
use Rattle.std.specs.Prelude.{ℕ, List, [], ◌∷◌, ◌++◌, take, drop}
use Rattle.base.specs.Numbers.{leading, big_endian}
use Rattle.messages.specs.declared.kind.Kind.{Kind}
use Rattle.messages.specs.declared.kind.Kind.TheVariants.{GetStatus, RespondStatus, Update, Reset, Row, Close, UpdateConfirm, UpdateFail, ResetConfirm, Abort}
use Rattle.messages.specs.declared.message.Message.{Message}
use Rattle.messages.specs.declared.message.Message.TheVariants as message
use Rattle.messages.specs.Kinds.{about}

-- What a message says. A row is its bytes.
pub data Said : Type 0 where
  get_status : (version : ℕ) (identity : List ℕ) (limit nonce : ℕ) (tag : List ℕ) → Said
  respond_status : (version : ℕ) (identity : List ℕ) (count stored : ℕ) (tag : List ℕ) → Said
  update : (tag : List ℕ) → Said
  reset : (tag : List ℕ) → Said
  row : (bytes : List ℕ) → Said
  close : (version : ℕ) (tag : List ℕ) → Said
  update_confirm : (tag : List ℕ) → Said
  update_fail : (tag : List ℕ) → Said
  reset_confirm : (tag : List ℕ) → Said
  abort : Said

-- What a message of the code says: its row is what it is lent.
abbrev pub meant : Message → Said
meant (message.GetStatus v i l n t) = get_status v i l n t
meant (message.RespondStatus v i c s t) = respond_status v i c s t
meant (message.Update t) = update t
meant (message.Reset t) = reset t
meant (message.Row r) = row r.now
meant (message.Close v t) = close v t
meant (message.UpdateConfirm t) = update_confirm t
meant (message.UpdateFail t) = update_fail t
meant (message.ResetConfirm t) = reset_confirm t
meant message.Abort = abort

-- The kind of what is said.
abbrev pub kind_of : Said → Kind
kind_of (get_status v i l n t) = GetStatus
kind_of (respond_status v i c s t) = RespondStatus
kind_of (update t) = Update
kind_of (reset t) = Reset
kind_of (row r) = Row
kind_of (close v t) = Close
kind_of (update_confirm t) = UpdateConfirm
kind_of (update_fail t) = UpdateFail
kind_of (reset_confirm t) = ResetConfirm
kind_of abort = Abort

-- n bytes from a place on, and the number that they write.
abbrev pub part : ℕ → ℕ → List ℕ → List ℕ
part at n bs = take n (drop at bs)

abbrev pub number_at : ℕ → ℕ → List ℕ → ℕ
number_at at n bs = leading n (drop at bs)

-- The fields of a status message, asked or told, each at its place. Places count from the byte after the first.
abbrev pub status_by : (ℕ → List ℕ → ℕ → ℕ → List ℕ → Said) → List ℕ → Said
status_by make rest = make (number_at 0 8 rest) (part 8 12 rest) (number_at 20 4 rest) (number_at 24 8 rest) (part 32 8 rest)

-- What a message of a kind says by the bytes after its first.
abbrev pub said_by : Kind → List ℕ → Said
said_by GetStatus rest = status_by get_status rest
said_by RespondStatus rest = status_by respond_status rest
said_by Update rest = update (part 0 8 rest)
said_by Reset rest = reset (part 0 8 rest)
said_by Row rest = row (part 0 64 rest)
said_by Close rest = close (number_at 0 8 rest) (part 8 8 rest)
said_by UpdateConfirm rest = update_confirm (part 0 8 rest)
said_by UpdateFail rest = update_fail (part 0 8 rest)
said_by ResetConfirm rest = reset_confirm (part 0 8 rest)
said_by Abort rest = abort

-- The bytes of those fields, one after the other.
abbrev pub status : ℕ → List ℕ → ℕ → ℕ → List ℕ → List ℕ
status v i c o t = big_endian 8 v ++ (i ++ (big_endian 4 c ++ (big_endian 8 o ++ t)))

-- The bytes after the first, and all of them.
abbrev pub fields_of : Said → List ℕ
fields_of (get_status v i l n t) = status v i l n t
fields_of (respond_status v i c s t) = status v i c s t
fields_of (update t) = t
fields_of (reset t) = t
fields_of (row r) = r
fields_of (close v t) = big_endian 8 v ++ t
fields_of (update_confirm t) = t
fields_of (update_fail t) = t
fields_of (reset_confirm t) = t
fields_of abort = []

abbrev pub bytes_of : Said → List ℕ
bytes_of s = (about (kind_of s)).number ∷ fields_of s
