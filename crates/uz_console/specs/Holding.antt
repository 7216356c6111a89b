-- Buttons that are held.
use Rattle.std.specs.Prelude.{◌≡◌, ℕ}
use Rattle.uz_core.specs.PadLine.{PadHistory}
use Rattle.uz_core.specs.Turn.{State}
use Rattle.uz_pads.specs.declared.pads.Pad.{Pad}
use Rattle.uz_pads.specs.Pads as pads
use Rattle.uz_ports.specs.BoardStates.{HoldsPad}
use Rattle.uz_console.specs.declared.console.Console.{Console}
use Rattle.uz_console.specs.Consoles.{state_of}

-- a state of the machine whose pads find a pair at the next latches, so many of them, and none at those after them
abbrev pub holding_state : Pad → ℕ → State PadHistory → State PadHistory
holding_state pad times s =
    record s { space = record { bytes = s.space.bytes; timer = s.space.timer; pads = pads.holding pad times s.space.pads } }

-- so many pairs of the pads' list aren't latched yet
abbrev pub pads_left : Console → ℕ
pads_left console = pads.pads_left (state_of console).space.pads

-- a console whose board does so, and all else is the same
pub record IsHeld (pad : Pad) (times : ℕ) (old new : Console) : Type 0 where
  pub image : new.program ≡ old.program
  pub core : new.cpu ≡ old.cpu
  pub board : HoldsPad pad times old.board new.board
  pub response : new.irq ≡ old.irq
  pub is_owed : new.owed ≡ old.owed
