-- The state that a console is, and the states of the machine that it stands for.
use Rattle.std.specs.Prelude.{◌≡◌, ℕ}
use Rattle.uz_schedule.specs.Schedule.{response_clocks}
use Rattle.uz_core.specs.PadLine.{PadHistory}
use Rattle.uz_core.specs.Turn.{State}
use Rattle.uz_pads.specs.declared.pads.Pads.{Pads}
use Rattle.uz_pads.specs.Pads as pads
use Rattle.uz_ports.specs.Boards as board
use Rattle.uz_console.specs.declared.console.Console.{Console}

-- a console is a state over its board's own pads
abbrev pub state_of : Console → State Pads
state_of console = record {
  image = console.program;
  core = console.cpu;
  space = board.space_of console.board;
  response = response_clocks console.irq;
  is_owed = console.owed;
  clock = board.clock_of console.board;
}

abbrev pub clock_of : Console → ℕ
clock_of console = (state_of console).clock

-- A state over the board's pads stands for one of the machine: its parts are the state's, and its pads stand for the
-- state's list of pairs and list of PORTA's values
pub record StateStandsFor (t : State Pads) (s : State PadHistory) : Type 0 where
  pub image : s.image ≡ t.image
  pub core : s.core ≡ t.core
  pub bytes : s.space.bytes ≡ t.space.bytes
  pub timer : s.space.timer ≡ t.space.timer
  pub pads : pads.StandsFor t.space.pads s.space.pads
  pub response : s.response ≡ t.response
  pub is_owed : s.is_owed ≡ t.is_owed
  pub clock : s.clock ≡ t.clock

-- a console stands for the states that its own state stands for
abbrev pub StandsFor : Console → State PadHistory → Type 0
StandsFor console s = StateStandsFor (state_of console) s
