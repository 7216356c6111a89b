use Rattle.std.proofs.Common.{◌-◌}
use Rattle.uz_core.specs.PadLine.{PadHistory}
use Rattle.uz_core.specs.Turn.{State}
use Rattle.uz_console.specs.Consoles.{StandsFor, clock_of}
use Rattle.uz_proposal.specs.Visits.{IsVisitedSoFar}
use Rattle.uz_proposal.proofs.visits.registers_at.Given as goal

abbrev pub invariant-turns : goal.invariant-turns
invariant-turns l =
    (s : State PadHistory) → StandsFor l.initial.console s → IsVisitedSoFar l.limit l.fn.handling l.pc l.sp s l.console l.handling l.seen

-- the clocks that are left
abbrev pub decreases-turns : goal.decreases-turns
decreases-turns l = l.limit - clock_of l.console
