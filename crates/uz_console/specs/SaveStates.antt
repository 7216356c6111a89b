-- Copies of a console, and save states.
use Rattle.std.specs.Prelude.{◌≡◌, ℕ, List, Bool}
use Rattle.uz_core.specs.Core.{Core}
use Rattle.uz_core.specs.PadLine.{PadHistory}
use Rattle.uz_core.specs.Turn.{State}
use Rattle.uz_pads.specs.declared.pads.Pad.{Pad}
use Rattle.uz_pads.specs.declared.pads.Pads.{Pads}
use Rattle.uz_pads.specs.Pads.{pad_state_of, with_pad_state}
use Rattle.uz_pads.specs.Pads as pads
use Rattle.uz_ports.specs.BoardStates.{Changing, SameBoard, board_state}
use Rattle.uz_console.specs.declared.console.Console.{Console}
use Rattle.uz_console.specs.declared.copying.SaveState.{SaveState}

-- two consoles with the same parts
pub record SameConsole (a b : Console) : Type 0 where
  pub image : b.program ≡ a.program
  pub core : b.cpu ≡ a.cpu
  pub board : SameBoard a.board b.board
  pub response : b.irq ≡ a.irq
  pub is_owed : b.owed ≡ a.owed

-- what changes of a console between turns
pub record Saved : Type 0 where
  pub core : Core
  pub board : Changing
  pub is_owed : Bool

abbrev pub saved : SaveState → Saved
saved save = record { core = save.cpu; board = board_state save.board; is_owed = save.owed }

abbrev pub clock_saved : SaveState → ℕ
clock_saved save = (saved save).board.clock

abbrev pub saved_of : State Pads → Saved
saved_of s = record {
  core = s.core;
  board = record { bytes = s.space.bytes; timer = s.space.timer; pads = pad_state_of s.space.pads; clock = s.clock };
  is_owed = s.is_owed;
}

-- the same flash, list of pads and response in another state
abbrev pub with_saved : Saved → State Pads → State Pads
with_saved save s = record s {
  core = save.core;
  space = record { bytes = save.board.bytes; timer = save.board.timer; pads = with_pad_state save.board.pads s.space.pads };
  is_owed = save.is_owed;
  clock = save.board.clock;
}

-- A save state is of a state of the machine: what changes of it is kept, and the pads stand for its pads with a list of its pairs
pub record IsOf (save : Saved) (s : State PadHistory) : Type 0 where
  pub core : s.core ≡ save.core
  pub bytes : s.space.bytes ≡ save.board.bytes
  pub timer : s.space.timer ≡ save.board.timer
  pub list : List Pad
  pub pads : pads.StateStandsFor list save.board.pads s.space.pads
  pub is_owed : s.is_owed ≡ save.is_owed
  pub clock : s.clock ≡ save.board.clock

abbrev pub IsSaveOf : SaveState → State PadHistory → Type 0
IsSaveOf save s = IsOf (saved save) s

-- two states of one console: with the same flash, pairs of pads and response
pub record IsSameConsole (s t : State PadHistory) : Type 0 where
  pub image : t.image ≡ s.image
  pub pairs : t.space.pads.pairs ≡ s.space.pads.pairs
  pub response : t.response ≡ s.response
