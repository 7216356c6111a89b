use Rattle.std.proofs.Common.{◌≡◌, map, take}
use Rattle.uz_report.specs.KindText.{length_of_kind}
use Rattle.uz_report.proofs.frame_text.line_lengths.Given as goal

abbrev pub invariant-loop-kind : goal.invariant-loop-kind
invariant-loop-kind l = l.lengths.items ≡ map (length_of_kind l.schedule) (take l.kind-index l.schedule.lines)
