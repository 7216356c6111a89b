use Rattle.std.proofs.Common.{◌≡◌, ◌≤◌, ◌+◌, ◌++◌, drop}
use Rattle.uz_report.specs.FrameText.{runs_after}
use Rattle.uz_report.proofs.frame_text.put_runs_after.Given as goal

-- what is written, and what is left
abbrev pub invariant-loop-next : goal.invariant-loop-next
invariant-loop-next l = record {
  text : l.text.items ++ runs_after l.count l.kind (drop l.next-index l.later) ≡ l.initial.text.items ++ runs_after 1 l.fn.first l.later;
  few : l.count ≤ l.next-index + 1;
}
