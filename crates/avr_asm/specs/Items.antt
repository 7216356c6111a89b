-- What stands in an image at an item's address.
use Rattle.std.specs.Prelude.{◌+◌, ◌≤◌}
use Rattle.avr_table.specs.Rows.{Reads, words_of}
use Rattle.uz_hex.specs.Cells.{word_of}
use Rattle.avr_asm.specs.declared.output.Placed.{Placed}
use Rattle.avr_asm.specs.Emission.{Flash}

-- the words at an item's address are read as its instruction; of one word, whatever follows
abbrev pub IsDecoded : Flash → Placed → Type 0
IsDecoded image item = Reads (word_of image item.at) (word_of image (item.at + 1)) item.instr

-- all its words lie in the flash of 32,768 words
abbrev pub IsInFlash : Placed → Type 0
IsInFlash item = item.at + words_of item.instr ≤ 32768
