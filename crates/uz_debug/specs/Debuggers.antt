-- The session that a debugger is in.
use Rattle.std.specs.Prelude.{◌≡◌, ℕ, List, Some}
use Rattle.std.specs.FinMap as map
use Rattle.uz_core.specs.PadLine.{PadHistory}
use Rattle.uz_core.specs.Turn.{State}
use Rattle.uz_core.specs.Turn.{state_byte}
use Rattle.uz_pads.specs.Pads.{pads_wiring}
use Rattle.uz_console.specs.declared.console.Console.{Console}
use Rattle.uz_console.specs.Consoles.{state_of}
use Rattle.uz_debug.specs.declared.command.Command.{Command}
use Rattle.uz_debug.specs.declared.command.Reply.{Reply}
use Rattle.uz_debug.specs.declared.debugger.Debugger.{Debugger}
use Rattle.uz_debug.specs.declared.run.Halt.{Halt}
use Rattle.uz_debug.specs.declared.run.Halt.TheVariants as halt
use Rattle.uz_debug.specs.Checkpoints.{IsTimeline, HasState, turn_of}
use Rattle.uz_debug.specs.Sessions.{Session, IsStuck, Acts, ActsInTurn, TellsPlace, TellsStop, session_at_reset}

abbrev pub session_of : Debugger → Session
session_of debugger = record { turn = turn_of debugger.timeline; breakpoints = debugger.breakpoints; slots = debugger.slots }

-- what a debugger has: the console and the states that are kept are at their turns from the start, and each slot's turn has a state
pub record Keeps (start : State PadHistory) (debugger : Debugger) : Type 0 where
  pub timeline : IsTimeline start debugger.timeline
  pub slots : (slot turn : ℕ) → map.get (session_of debugger).slots slot ≡ Some turn → HasState start turn

-- A debugger that has done these commands from reset, each with its reply
pub record Debugs (start : State PadHistory) (done : List (Command × Reply)) (debugger : Debugger) : Type 0 where
  pub session : ActsInTurn start session_at_reset done (session_of debugger)
  pub keeps : Keeps start debugger

-- one command more, by the code
abbrev pub DoesAct : Debugger → Command → Reply → Debugger → Type 0
DoesAct old command answer new = (start : State PadHistory) → Keeps start old → Acts start (session_of old) command answer (session_of new)
    × Keeps start new

-- the reply that fits a run's end
abbrev pub TellsHalt : State PadHistory → ℕ → Halt → Reply → Type 0
TellsHalt start turn halt.Goal answer = TellsPlace start turn answer
TellsHalt start turn halt.Breakpoint answer = TellsPlace start turn answer
TellsHalt start turn halt.Stuck answer = IsStuck start turn → TellsStop start turn answer

-- the bytes that reads of a console's data space give, without their effects
abbrev pub read_of : Console → ℕ → ℕ
read_of console at = state_byte pads_wiring (state_of console) at
