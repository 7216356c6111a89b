-- A state whose parts are in range, as the chip's registers and memories hold them. The state at reset is one, and each
-- turn keeps it.
use Rattle.std.specs.Prelude.{◌≡◌, ◌⊎◌}
use Rattle.uz_hex.specs.Cells.{IsFlash}
use Rattle.uz_core.specs.CoreRange.{IsCore}
use Rattle.uz_core.specs.Space.{IsSpace}
use Rattle.uz_core.specs.Turn.{State}

-- What it bounds: the flash has bytes at its 65,536 addresses alone, there are 32 registers that are bytes, SREG is a byte,
-- pc is a word address of the flash, SP has 16 bits (any of them: also where no RAM is), every address up to the end of
-- the RAM has a byte, the timer's registers are in their widths, and an entry takes 4 or 5 clocks.
--
-- What it doesn't bound: the pads, of which the words and PORTA's values may be any numbers and needn't agree with PORTA's
-- byte; whether an instruction is owed; the clock. A register's bits that the chip doesn't have keep what was written, as
-- in this project's profile. It doesn't say that a run from reset comes to the state
pub record IsState {P : Type 0} (s : State P) : Type 0 where
  pub image : IsFlash s.image
  pub core : IsCore s.core
  pub space : IsSpace s.space
  pub response : (s.response ≡ 4) ⊎ (s.response ≡ 5)
