use Rattle.std.proofs.Common.{◌≡◌, drop}
use Rattle.uz_report.specs.Shown.{odd_after}
use Rattle.uz_report.proofs.distances.odd_after.Given as goal

-- what is left answers for all
abbrev pub invariant-loop-clock : goal.invariant-loop-clock
invariant-loop-clock l = odd_after l.distance l.before (drop l.clock-index l.clocks) ≡ odd_after l.distance l.first l.clocks
