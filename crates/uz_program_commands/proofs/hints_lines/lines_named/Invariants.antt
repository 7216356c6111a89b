use Rattle.std.proofs.Common.{◌≡◌, drop}
use Rattle.uz_program_commands.specs.HintsCommand.{frame_lines}
use Rattle.uz_program_commands.proofs.hints_lines.lines_named.Given as goal

-- none was found, and what is left names the same lines
abbrev pub invariant-loop-remarked : goal.invariant-loop-remarked
invariant-loop-remarked l = frame_lines (drop l.remarked-index l.hints) ≡ frame_lines l.hints
