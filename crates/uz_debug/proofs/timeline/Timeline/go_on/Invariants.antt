use Rattle.std.proofs.Common.{◌-◌, ◌≤◌}
use Rattle.uz_core.specs.PadLine.{PadHistory}
use Rattle.uz_core.specs.Turn.{State}
use Rattle.uz_debug.specs.Checkpoints.{IsTimeline, turn_of}
use Rattle.uz_debug.specs.Timelines.{Passed, stops_of}
use Rattle.uz_debug.proofs.timeline.Timeline.go_on.Given as goal

abbrev pub invariant-loop-self : goal.invariant-loop-self
invariant-loop-self l = record {
  run : (start : State PadHistory) → IsTimeline start l.fn.self → IsTimeline start l.self × Passed start (stops_of l.stops)
      (turn_of l.fn.self) (turn_of l.self);
  within : turn_of l.self ≤ l.goal;
  onward : turn_of l.fn.self ≤ turn_of l.self;
}

abbrev pub decreases-loop-self : goal.decreases-loop-self
decreases-loop-self l = l.goal - turn_of l.self
