-- Copies of a board, and what changes of it.
use Rattle.std.specs.Prelude.{◌≡◌, ℕ, List, None}
use Rattle.uz_core.specs.Timer.{Timer}
use Rattle.uz_pads.specs.declared.pads.Pads.{Pads}
use Rattle.uz_pads.specs.declared.pads.PadState.{PadState}
use Rattle.uz_pads.specs.declared.pads.Pad.{Pad}
use Rattle.uz_pads.specs.Pads.{held_list, list_of, pad_state_of, with_pad_state}
use Rattle.uz_core.specs.Space.{Space}
use Rattle.uz_ports.specs.declared.board.Board.{Board}
use Rattle.uz_ports.specs.declared.copying.BoardState.{BoardState}
use Rattle.uz_ports.specs.Boards.{BoardContent, space_of, held_of, entered_of, clock_of}

-- the pads of one board are those of another: the same list in the same state
pub record SamePads (p q : Pads) : Type 0 where
  pub list : list_of q ≡ list_of p
  pub state : pad_state_of q ≡ pad_state_of p

pub record SameSpace (s t : Space Pads) : Type 0 where
  pub bytes : t.bytes ≡ s.bytes
  pub timer : t.timer ≡ s.timer
  pub pads : SamePads s.pads t.pads

-- two boards with the same parts
pub record SameBoard (a b : Board) : Type 0 where
  pub space : SameSpace (space_of a) (space_of b)
  pub held : held_of b ≡ held_of a
  pub entered : entered_of b ≡ entered_of a
  pub clock : clock_of b ≡ clock_of a

-- a board whose pads find a pair at the next latches, so many of them
pub record HoldsPad (pad : Pad) (times : ℕ) (a b : Board) : Type 0 where
  pub bytes : (space_of b).bytes ≡ (space_of a).bytes
  pub timer : (space_of b).timer ≡ (space_of a).timer
  pub list : list_of (space_of b).pads ≡ held_list pad times (space_of a).pads
  pub state : pad_state_of (space_of b).pads ≡ pad_state_of (space_of a).pads
  pub held : held_of b ≡ held_of a
  pub entered : entered_of b ≡ entered_of a
  pub clock : clock_of b ≡ clock_of a

-- what changes of a board between turns
pub record Changing : Type 0 where
  pub bytes : List ℕ
  pub timer : Timer
  pub pads : PadState
  pub clock : ℕ

abbrev pub board_state : BoardState → Changing
board_state state = record { bytes = state.bytes.items; timer = state.timer; pads = state.pads; clock = state.clock }

abbrev pub board_state_of : BoardContent → Changing
board_state_of c = record { bytes = c.space.bytes; timer = c.space.timer; pads = pad_state_of c.space.pads; clock = c.clock }

-- the same list of pads in another state of the board, with nothing noted
abbrev pub with_board_state : Changing → BoardContent → BoardContent
with_board_state state c = record {
  space = record { bytes = state.bytes; timer = state.timer; pads = with_pad_state state.pads c.space.pads };
  entered = None;
  clock = state.clock;
}
