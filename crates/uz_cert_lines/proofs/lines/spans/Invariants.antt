use Rattle.std.proofs.Common.{◌≡◌, ◌≤◌, drop, length}
use Rattle.uz_cert_lines.specs.Forms.{spans_of}
use Rattle.uz_cert_lines.proofs.Spans.{spans_behind}
use Rattle.uz_cert_lines.proofs.lines.spans.Given as goal

-- the ranges so far, and those of the cells that are left, are those of all cells
abbrev pub invariant-loop-cell : goal.invariant-loop-cell
invariant-loop-cell l = record {
  room : length l.list.items ≤ l.cell-index;
  done : spans_behind l.list.items (spans_of (drop l.cell-index l.cells) l.words) ≡ spans_of l.cells l.fn.words;
}
