use Rattle.std.proofs.Common.{◌≡◌, ◌++◌}
use Rattle.uz_report.specs.KindText.{blocks_below}
use Rattle.uz_report.proofs.kind_text.put_kinds.Given as goal

abbrev pub invariant-loop-kind : goal.invariant-loop-kind
invariant-loop-kind l = l.text.items ≡ l.initial.text.items ++ blocks_below l.schedule l.kind
