-- What the two kinds of part mean: the rewriting part and the flash part. Assumes nothing.
use Rattle.memory.specs.Model.{Mem}
use Rattle.cells.specs.declared.cell.PlainRow.{PlainRow}
use Rattle.cells.specs.declared.cell.FlashRow.{FlashRow}
use Rattle.cells.specs.declared.counter.Register.{Register}
use Rattle.cells.specs.declared.counter.Strip.{Strip}
use Rattle.parts.specs.declared.Part.{Part}
use Rattle.cells.specs.Bounds.{register_limit, strip_bits}
use Rattle.cells.specs.Cells.{plain_means, flash_means}
use Rattle.cells.specs.Counters.{register_count, strip_count}
use Rattle.parts.specs.Part.{meaning_of}

abbrev pub rewriting_means : Part PlainRow Register → Mem
rewriting_means = meaning_of plain_means register_count register_limit

abbrev pub flash_part_means : Part FlashRow Strip → Mem
flash_part_means = meaning_of flash_means strip_count strip_bits
