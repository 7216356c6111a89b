use Rattle.std.proofs.Common.{◌-◌, List}
use Rattle.uz_core.specs.declared.machine.Edge.{Edge}
use Rattle.uz_core.specs.PadLine.{PadHistory}
use Rattle.uz_core.specs.Turn.{State}
use Rattle.uz_console.specs.Consoles.{clock_of}
use Rattle.uz_console.specs.Runs.{RunsTo}
use Rattle.uz_proposal.specs.Reaching.{IsOnTheWay}
use Rattle.uz_proposal.proofs.reaching.reach.Given as goal

abbrev pub invariant-pages : goal.invariant-pages
invariant-pages l = (start : State PadHistory) (edges : List Edge) → RunsTo l.limit start edges l.initial.console
    → IsOnTheWay l.limit start edges l.console

-- the clocks that are left
abbrev pub decreases-pages : goal.decreases-pages
decreases-pages l = l.limit - clock_of l.console
