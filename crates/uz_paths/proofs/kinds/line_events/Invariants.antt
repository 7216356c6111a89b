use Rattle.std.proofs.Common.{◌≡◌, ◌-◌, ◌++◌}
use Rattle.uz_search.specs.Following.{line_start}
use Rattle.uz_paths.specs.Kinds.{events_from, line_events}
use Rattle.uz_paths.proofs.kinds.line_events.Given as goal

-- those so far, and what is left
abbrev pub invariant-loop-clock : goal.invariant-loop-clock
invariant-loop-clock l = l.events ++ events_from l.marks (line_start l.line) l.clock (l.clocks - l.clock) ≡ line_events l.marks l.line
    l.clocks
