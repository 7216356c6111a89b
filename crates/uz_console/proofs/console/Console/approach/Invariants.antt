use Rattle.std.proofs.Common.{◌-◌, ◌≤◌, List}
use Rattle.uz_core.specs.declared.machine.Edge.{Edge}
use Rattle.uz_core.specs.PadLine.{PadHistory}
use Rattle.uz_core.specs.Turn.{State}
use Rattle.uz_schedule.specs.WellFormed.{WellFormed}
use Rattle.uz_console.specs.Approaches.{RunsUnentered}
use Rattle.uz_console.specs.Consoles.{clock_of}
use Rattle.uz_console.specs.Runs.{RunsTo}
use Rattle.uz_console.proofs.console.Console.approach.Given as goal

-- the turns so far had no edges, none of their states has entered, and the clock didn't go back
abbrev pub invariant-loop-edges : goal.invariant-loop-edges
invariant-loop-edges l = record {
  run : (start : State PadHistory) (edges : List Edge) → RunsTo l.limit start edges l.initial.self → RunsTo l.limit start edges l.self;
  unentered : WellFormed l.cert → (start : State PadHistory) (edges : List Edge) → RunsUnentered l.cert l.limit start edges l.initial.self
      → RunsUnentered l.cert l.limit start edges l.self;
  time : clock_of l.initial.self ≤ clock_of l.self;
}

abbrev pub decreases-loop-edges : goal.decreases-loop-edges
decreases-loop-edges l = l.limit - clock_of l.self
