use Rattle.std.proofs.Common.{◌≡◌}
use Rattle.uz_report.specs.Shown.{distances_below}
use Rattle.uz_report.proofs.distances.distances.Given as goal

abbrev pub invariant-loop-i : goal.invariant-loop-i
invariant-loop-i l = l.all.items ≡ distances_below l.clocks l.i
