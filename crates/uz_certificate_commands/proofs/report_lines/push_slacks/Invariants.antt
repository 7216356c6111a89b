use Rattle.std.proofs.Common.{◌≡◌, ◌++◌, take}
use Rattle.uz_certificate_commands.specs.ReportCommand.{slack_lines}
use Rattle.uz_certificate_commands.proofs.report_lines.push_slacks.Given as goal

abbrev pub invariant-loop-slack : goal.invariant-loop-slack
invariant-loop-slack l = l.text.items ≡ l.initial.text.items ++ slack_lines (take l.slack-index l.slacks)
