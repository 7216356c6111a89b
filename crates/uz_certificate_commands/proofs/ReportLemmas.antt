-- The lines of a report, one by one.
use Rattle.std.proofs.Common.{◌≡◌, ℕ, ◌+◌, ◌<◌, List, slice_index_or, [], ◌∷◌, ◌++◌, length, take, refl, sym, ap, ◌∙◌, append_assoc}
use Rattle.std.proofs.lemmas.List.{append-nil, take_more}
use Rattle.uz_report.specs.declared.main_time.Slack.{Slack}
use Rattle.uz_certificate_commands.specs.ReportCommand.{slack_line, slack_lines}

slack_lines-append : (a b : List Slack) → slack_lines (a ++ b) ≡ slack_lines a ++ slack_lines b
slack_lines-append [] b = refl
slack_lines-append (x ∷ xs) b = ap (λ t. slack_line x ++ t) (slack_lines-append xs b)
    ∙ sym (append_assoc (slack_line x) (slack_lines xs) (slack_lines b))

-- the lines of one more rest
pub slack_lines-take : (slacks : List Slack) (i : ℕ) (other : Slack) → i < length slacks → slack_lines (take (i + 1) slacks)
    ≡ slack_lines (take i slacks) ++ slack_line (slice_index_or slacks i other)
slack_lines-take slacks i other below =
    let more : take (i + 1) slacks ≡ take i slacks ++ slice_index_or slacks i other ∷ [] = take_more slacks i other below in
    ap slack_lines more
    ∙ (slack_lines-append (take i slacks) (slice_index_or slacks i other ∷ []) ∙ ap (λ t. slack_lines (take i slacks) ++ t)
    (append-nil (slack_line (slice_index_or slacks i other))))
