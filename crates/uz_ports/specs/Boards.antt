-- The parts of a board.
use Rattle.std.specs.Prelude.{ℕ, List, [], ◌∷◌, Option, Some, None}
use Rattle.uz_core.specs.declared.machine.HeldStore.{HeldStore}
use Rattle.uz_core.specs.declared.machine.Edge.{Edge}
use Rattle.uz_core.specs.declared.machine.EdgeKind.TheVariants.{Enter}
use Rattle.uz_core.specs.Core.{LoadModel}
use Rattle.uz_core.specs.Space.{Space, space_loads}
use Rattle.uz_pads.specs.declared.pads.Pads.{Pads}
use Rattle.uz_pads.specs.Pads.{pads_wiring}
use Rattle.uz_ports.specs.declared.board.Board.{Board}

-- What a board holds but for held stores: the data space over the board's own pads, the interrupt that is noted in
-- this turn (TCNT1 as it was taken), and clocks from reset
pub record BoardContent : Type 0 where
  pub space : Space Pads
  pub entered : Option ℕ
  pub clock : ℕ

abbrev pub content_of : Board → BoardContent
content_of board = record {
  space = record { bytes = board.bytes.items; timer = board.timer; pads = board.pads };
  entered = board.entered;
  clock = board.clock;
}

abbrev pub space_of : Board → Space Pads
space_of board = (content_of board).space

-- the same data space over other pads
abbrev pub with_pads : {P Q : Type 0} → Q → Space P → Space Q
with_pads pads space = record { bytes = space.bytes; timer = space.timer; pads = pads }

abbrev pub entered_of : Board → Option ℕ
entered_of board = (content_of board).entered

abbrev pub clock_of : Board → ℕ
clock_of board = (content_of board).clock

-- the stores that are held for the turn's end, in order
abbrev pub held_of : Board → List HeldStore
held_of board = board.held.items

-- loads are the data space's, and leave the rest
abbrev pub board_loads : LoadModel BoardContent
board_loads = record {
  byte = λ content at late. (space_loads pads_wiring).byte content.space at late;
  content_after = λ content at late. record content { space = (space_loads pads_wiring).content_after content.space at late };
}

-- the edge of an interrupt that was noted
abbrev pub entry_edge : ℕ → Option ℕ → List Edge
entry_edge clock None = []
entry_edge clock (Some count) = record { clock = clock; kind = Enter count } ∷ []
