-- The fields of a status message, asked or told, apart from its kind. Assumes nothing.
use Rattle.std.specs.Prelude.{ℕ, List}
use Rattle.messages.specs.declared.status.Status.{Status}
use Rattle.messages.specs.Wire.{part, number_at}

-- Each field at its place.
abbrev pub status_at : List ℕ → Status
status_at rest =
    record {
      version = number_at 0 8 rest;
      identity = part 8 12 rest;
      count = number_at 20 4 rest;
      other = number_at 24 8 rest;
      tag = part 32 8 rest;
    }
