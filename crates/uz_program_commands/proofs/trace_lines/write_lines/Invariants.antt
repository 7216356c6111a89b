use Rattle.std.proofs.Common.{◌≡◌, ◌*◌, ◌≤◌, drop, length}
use Rattle.uz_program_commands.specs.TraceCommand.{edge_lines}
use Rattle.uz_program_commands.proofs.trace_lines.write_lines.Given as goal

-- the edges from one on have their lines at the end of the text, and there is room for the others'
abbrev pub invariant-loop-left : goal.invariant-loop-left
invariant-loop-left l = record {
  left : l.left ≤ length l.edges;
  room : l.left * 33 ≤ l.start;
  within : l.start ≤ length l.text;
  written : drop l.start l.text ≡ edge_lines (drop l.left l.edges);
  length : length l.text ≡ length l.initial.text;
}

abbrev pub decreases-loop-left : goal.decreases-loop-left
decreases-loop-left l = l.left
