use Rattle.std.proofs.Common.{◌≡◌, ◌++◌}
use Rattle.uz_report.specs.KindText.{distance_lines_below}
use Rattle.uz_report.proofs.kind_text.put_distances.Given as goal

abbrev pub invariant-loop-distance : goal.invariant-loop-distance
invariant-loop-distance l = l.text.items ≡ l.initial.text.items ++ distance_lines_below l.all l.distance
