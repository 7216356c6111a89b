-- What the words of a flash are read as.
use Rattle.std.specs.Prelude.{ℕ, Option}
use Rattle.std.specs.Ordering.{nat_cmp}
use Rattle.std.specs.FinMap.{FinMap}
use Rattle.avr_table.specs.declared.Instr.{Instr}
use Rattle.uz_transfer.specs.Step.{IsReadAt}

-- by program counter, the instruction that its words are read as, if they are read as one
abbrev pub Reading : Type 0
Reading = ℕ → Option Instr

-- each word of the flash, with the one after it, is read so. There is one reading of a flash
abbrev pub IsReading : FinMap nat_cmp ℕ → Reading → Type 0
IsReading image read = (pc : ℕ) → IsReadAt image pc (read pc)
