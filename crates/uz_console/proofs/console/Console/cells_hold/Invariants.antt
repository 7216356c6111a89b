use Rattle.std.proofs.Common.{◌↔◌, drop}
use Rattle.std.specs.Prelude.{filter}
use Rattle.uz_console.specs.Consoles.{state_of}
use Rattle.uz_schedule.specs.Tracked.{tracked, tracks}
use Rattle.uz_console.specs.Entry.{CellsHold}
use Rattle.uz_console.proofs.console.Console.cells_hold.Given as goal

abbrev pub invariant-loop-cell : goal.invariant-loop-cell
invariant-loop-cell l = CellsHold (filter (λ cell. tracks l.kind cell.owner) (drop l.cell-index l.cell-items)) l.left
    (state_of l.self).space.bytes ↔ CellsHold (tracked l.head l.kind) l.spans (state_of l.self).space.bytes
