-- A console at a turn, with its checkpoints: save states of other turns.
use Rattle.std.specs.Prelude.{ℕ, List, All}
use Rattle.uz_core.specs.PadLine.{PadHistory}
use Rattle.uz_core.specs.Turn.{State}
use Rattle.uz_console.specs.declared.console.Console.{Console}
use Rattle.uz_console.specs.SaveStates.{IsSaveOf}
use Rattle.uz_debug.specs.declared.timeline.Checkpoint.{Checkpoint}
use Rattle.uz_debug.specs.declared.timeline.Timeline.{Timeline}
use Rattle.uz_debug.specs.Sessions.{IsAfter}
use Rattle.uz_debug.specs.Timelines.{IsAt}

abbrev pub turn_of : Timeline → ℕ
turn_of timeline = timeline.turn

abbrev pub turn_in : Checkpoint → ℕ
turn_in kept = kept.turn

abbrev pub saves_of : Timeline → List Checkpoint
saves_of timeline = timeline.saves.items

-- a turn that has a state
abbrev pub HasState : State PadHistory → ℕ → Type 0
HasState start turn = (s : State PadHistory) × IsAfter start turn s

abbrev pub console_of : Timeline → Console
console_of timeline = timeline.console

-- a checkpoint has the state of its turn
abbrev pub IsCheckpointOf : State PadHistory → Checkpoint → Type 0
IsCheckpointOf start kept = (s : State PadHistory) × IsAfter start kept.turn s × IsSaveOf kept.save s

-- the console is at its turn, and so is each state that is kept; the first is the start
pub record IsTimeline (start : State PadHistory) (timeline : Timeline) : Type 0 where
  pub here : IsAt start timeline.turn timeline.console
  pub first : IsSaveOf timeline.first start
  pub saves : All (IsCheckpointOf start) timeline.saves.items
