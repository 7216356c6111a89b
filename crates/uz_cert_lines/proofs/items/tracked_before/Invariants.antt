use Rattle.std.proofs.Common.{◌≡◌, ◌≤◌, ◌+◌, drop, take}
use Rattle.uz_cert_lines.specs.Items.{tracked_count}
use Rattle.uz_cert_lines.proofs.items.tracked_before.Given as goal

-- those so far, and those of the cells that are left, are all
abbrev pub invariant-loop-cell : goal.invariant-loop-cell
invariant-loop-cell l = record {
  few : l.count ≤ l.cell-index;
  done : l.count + tracked_count l.kind (drop l.cell-index (take l.i l.cells)) ≡ tracked_count l.kind (take l.i l.cells);
}
