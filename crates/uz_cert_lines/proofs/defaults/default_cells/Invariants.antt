use Rattle.std.proofs.Common.{◌≡◌, ◌≤◌, ◌++◌, drop, length}
use Rattle.uz_cert_lines.specs.Items.{default_cells}
use Rattle.uz_cert_lines.proofs.defaults.default_cells.Given as goal

-- the facts so far, and those of the cells that are left, are those of all cells
abbrev pub invariant-loop-cell : goal.invariant-loop-cell
invariant-loop-cell l = record {
  room : length l.facts.items ≤ l.cell-index;
  done : l.facts.items ++ default_cells l.kind (drop l.cell-index l.cells) ≡ default_cells l.kind l.cells;
}
