use Rattle.std.proofs.Common.{◌≡◌, ◌≤◌, ◌^◌, drop}
use Rattle.uz_schedule.specs.Limits.{rises_from}
use Rattle.uz_schedule.proofs.limits.rises.Given as goal

-- what is left answers for all
abbrev pub invariant-loop-n : goal.invariant-loop-n
invariant-loop-n l = record {
  small : l.least ≤ 2 ^ 32;
  left : rises_from l.least (drop l.n-index l.numbers) ≡ rises_from 0 l.numbers;
}
