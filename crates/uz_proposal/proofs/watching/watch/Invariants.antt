use Rattle.std.proofs.Common.{◌-◌}
use Rattle.uz_core.specs.PadLine.{PadHistory}
use Rattle.uz_core.specs.Turn.{State}
use Rattle.uz_console.specs.Consoles.{StandsFor, clock_of}
use Rattle.uz_proposal.specs.Windows.{IsWatchedSoFar}
use Rattle.uz_proposal.proofs.watching.watch.Given as goal

abbrev pub invariant-turns : goal.invariant-turns
invariant-turns l = (s : State PadHistory) → StandsFor l.initial.console s → IsWatchedSoFar l.limit l.handling s l.console l.window

-- the clocks that are left
abbrev pub decreases-turns : goal.decreases-turns
decreases-turns l = l.limit - clock_of l.console
