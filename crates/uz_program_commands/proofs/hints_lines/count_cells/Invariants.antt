use Rattle.std.proofs.Common.{◌≡◌, ◌+◌, ◌≤◌, drop, length}
use Rattle.std.specs.Prelude.{filter}
use Rattle.uz_program_commands.specs.HintsCommand.{is_cell}
use Rattle.uz_program_commands.proofs.hints_lines.count_cells.Given as goal

-- what was counted, and what is left
abbrev pub invariant-loop-remarked : goal.invariant-loop-remarked
invariant-loop-remarked l = record {
  few : l.count ≤ l.remarked-index;
  left : l.count + length (filter (λ r. is_cell r.hint) (drop l.remarked-index l.hints)) ≡ length (filter (λ r. is_cell r.hint) l.hints);
}
