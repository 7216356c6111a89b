use Rattle.std.proofs.Common.{◌-◌, ◌≤◌, ◌++◌, List}
use Rattle.uz_core.specs.declared.machine.Edge.{Edge}
use Rattle.uz_core.specs.PadLine.{PadHistory}
use Rattle.uz_core.specs.Turn.{State}
use Rattle.uz_console.specs.Consoles.{clock_of}
use Rattle.uz_console.specs.Pages.{HasFewEdges, IsTimedPage}
use Rattle.uz_console.specs.Runs.{RunsTo}
use Rattle.uz_console.proofs.console.Console.advance_page.Given as goal

-- the page has the edges of the turns so far
abbrev pub invariant-loop-edges : goal.invariant-loop-edges
invariant-loop-edges l = record {
  run : (start : State PadHistory) (edges : List Edge) → RunsTo l.limit start edges l.initial.self → RunsTo l.limit start
      (edges ++ l.page.items) l.self;
  time : clock_of l.initial.self ≤ clock_of l.self;
  edges : IsTimedPage l.initial.self l.self l.page.items;
  few : HasFewEdges l.limit l.initial.self l.self l.page.items;
}

abbrev pub decreases-loop-edges : goal.decreases-loop-edges
decreases-loop-edges l = l.limit - clock_of l.self
