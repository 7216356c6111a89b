use Rattle.std.proofs.Common.{◌-◌, length}
use Rattle.uz_proposal.specs.Periods.{Repeats}
use Rattle.uz_proposal.proofs.periods.same_at_end.Given as goal

abbrev pub invariant-loop-n : goal.invariant-loop-n
invariant-loop-n l = Repeats l.keys l.apart (length l.keys - l.apart - l.n)
