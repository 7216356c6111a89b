use Rattle.std.proofs.Common.{◌≡◌, drop}
use Rattle.uz_report.specs.Places.{has}
use Rattle.uz_report.proofs.places.has.Given as goal

-- what is left answers for all
abbrev pub invariant-loop-other : goal.invariant-loop-other
invariant-loop-other l = has l.number (drop l.other-index l.numbers) ≡ has l.number l.numbers
