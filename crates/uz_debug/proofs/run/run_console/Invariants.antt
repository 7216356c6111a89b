use Rattle.std.proofs.Common.{◌-◌, ◌*◌, ◌≤◌}
use Rattle.uz_core.specs.PadLine.{PadHistory}
use Rattle.uz_core.specs.Turn.{State}
use Rattle.uz_console.specs.Consoles.{clock_of}
use Rattle.uz_debug.specs.Timelines.{IsAt, Passed, stops_of}
use Rattle.uz_debug.proofs.run.run_console.Given as goal

abbrev pub invariant-loop-turn : goal.invariant-loop-turn
invariant-loop-turn l = record {
  run : (start : State PadHistory) → IsAt start l.from l.fn.console → IsAt start l.turn l.console × Passed start (stops_of l.stops) l.from
      l.turn;
  clock : clock_of l.console ≤ 5 * l.turn;
  within : l.turn ≤ l.goal;
  onward : l.from ≤ l.turn;
}

abbrev pub decreases-loop-turn : goal.decreases-loop-turn
decreases-loop-turn l = l.goal - l.turn
