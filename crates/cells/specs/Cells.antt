-- What a row of each part's table means. Assumes nothing.
use Rattle.std.specs.Prelude.{ℕ, cond, List, replicate, ◌==◌}
use Rattle.memory.specs.declared.RowKind.{RowKind}
use Rattle.memory.specs.declared.RowKind.TheVariants.{Written, Blank, Spoilt}
use Rattle.memory.specs.Model.{Row, written, blank, spoilt}
use Rattle.cells.specs.declared.cell.PlainRow.{PlainRow}
use Rattle.cells.specs.declared.cell.FlashRow.{FlashRow}

-- A row of a kind. Only a written one has bytes.
abbrev pub by_kind : RowKind → List ℕ → Row
by_kind Written bs = written bs
by_kind Blank bs = blank
by_kind Spoilt bs = spoilt

-- A row of the rewriting part is what it means.
abbrev pub plain_means : PlainRow → Row
plain_means (PlainRow.Written bs) = written bs
plain_means PlainRow.Blank = blank
plain_means PlainRow.Spoilt = spoilt

-- The marks of a flash row: 255 is blank, 15 written, and any other spoilt.
abbrev pub blank_mark : ℕ
blank_mark = 255

abbrev pub written_mark : ℕ
written_mark = 15

abbrev pub spoilt_mark : ℕ
spoilt_mark = 0

abbrev pub kind_by : ℕ → RowKind
kind_by mark = cond (mark == blank_mark) Blank (cond (mark == written_mark) Written Spoilt)

abbrev pub flash_means : FlashRow → Row
flash_means r = by_kind (kind_by r.mark) r.bytes

-- A flash row as it is, mark and bytes.
abbrev pub marked : ℕ → List ℕ → FlashRow
marked mark bs = record { mark = mark; bytes = bs }

-- A blank flash row: its mark and its 64 bytes are 255.
abbrev pub all_blank : FlashRow
all_blank = marked blank_mark (replicate 64 255)
