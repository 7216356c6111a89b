use Rattle.std.proofs.Common.{◌≡◌, ◌≤◌, ◌^◌, drop, map}
use Rattle.uz_schedule.specs.Limits.{rises_from}
use Rattle.uz_schedule.proofs.head.addresses_rise.Given as goal

-- what is left answers for all
abbrev pub invariant-loop-cell : goal.invariant-loop-cell
invariant-loop-cell l = record {
  small : l.least ≤ 2 ^ 16;
  left : rises_from l.least (map (λ c. c.at) (drop l.cell-index l.cells)) ≡ rises_from 0 (map (λ c. c.at) l.cells);
}
