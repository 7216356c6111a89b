use Rattle.std.proofs.Common.{◌≡◌, ◌≤◌, ◌^◌, drop, map}
use Rattle.uz_schedule.specs.Limits.{rises_from}
use Rattle.uz_schedule.proofs.limits.clocks_rise.Given as goal

-- what is left answers for all
abbrev pub invariant-loop-e : goal.invariant-loop-e
invariant-loop-e l = record {
  small : l.least ≤ 2 ^ 16;
  left : rises_from l.least (map (λ e. e.clock) (drop l.e-index l.events)) ≡ rises_from 0 (map (λ e. e.clock) l.events);
}
