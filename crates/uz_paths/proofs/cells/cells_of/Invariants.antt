use Rattle.std.proofs.Common.{◌≡◌, drop, take, length}
use Rattle.uz_paths.specs.Words.{cell_count}
use Rattle.uz_paths.specs.Cells.{with_cells, cells_of}
use Rattle.uz_paths.proofs.cells.cells_of.Given as goal

-- those so far, and what is left put among them
abbrev pub invariant-loop-hint : goal.invariant-loop-hint
invariant-loop-hint l = record {
  count : length l.cells.items ≡ cell_count (take l.hint-index l.hints);
  left : with_cells l.cells.items (drop l.hint-index l.hints) ≡ cells_of l.hints;
}
