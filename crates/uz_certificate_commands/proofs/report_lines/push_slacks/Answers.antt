use Rattle.std.proofs.Common.{ap, sym, ◌∙◌, ◌++◌, append_assoc, slice_index_or, take}
use Rattle.uz_report.specs.declared.main_time.Slack.{Slack}
use Rattle.uz_certificate_commands.specs.ReportCommand.{slack_line, slack_lines}
use Rattle.uz_certificate_commands.proofs.ReportLemmas.{slack_lines-take}
use Rattle.uz_certificate_commands.proofs.report_lines.push_slacks.Goals as goal

pub loop-slack-preserved : goal.loop-slack-preserved
loop-slack-preserved c =
    let other : Slack = record { line = 0; least = 0 } in
    c.in_ok-push_slack.ensures
    ∙ (ap (λ t. t ++ slack_line (slice_index_or c.args.slacks.now c.loop-slack.slack-index other)) c.loop-slack.invariant
    ∙ (append_assoc c.args.text.now.items (slack_lines (take c.loop-slack.slack-index c.args.slacks.now))
    (slack_line (slice_index_or c.args.slacks.now c.loop-slack.slack-index other))
    ∙ ap (λ t. c.args.text.now.items ++ t) (sym (slack_lines-take c.args.slacks.now c.loop-slack.slack-index other c.loop-slack-test.true))))
