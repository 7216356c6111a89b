-- The parts of a play that is made of plain fields.
use Rattle.std.specs.Prelude.{◌≡◌, [], None}
use Rattle.uz_core.specs.declared.machine.Edge.{Edge}
use Rattle.uz_core.specs.declared.machine.EdgeKind.TheVariants.{Leave}
use Rattle.uz_core.specs.PadLine.{PadHistory}
use Rattle.uz_pads.specs.Pads as pads
use Rattle.uz_ports.specs.declared.board.Board.{Board}
use Rattle.uz_ports.specs.Boards.{clock_of, entered_of, held_of, space_of}
use Rattle.uz_player.specs.declared.state.State.{State}
use Rattle.uz_player.specs.States.{PadsStandFor, pads_in, remembered, timer_in}

abbrev pub default_edge : Edge
default_edge = record { clock = 0; kind = Leave }

-- a board between turns, of the fields
pub record BoardStands (state : State) (board : Board) : Type 0 where
  pub bytes : (space_of board).bytes ≡ state.bytes
  pub timer : (space_of board).timer ≡ timer_in state.timer
  pub pads : (history : PadHistory) → PadsStandFor state.pads history
      → pads.StandsFor (space_of board).pads (remembered (pads_in state.pads) history)
  pub held : held_of board ≡ []
  pub entered : entered_of board ≡ None
  pub clock : clock_of board ≡ state.clock
