use Rattle.std.proofs.Common.{◌≡◌, ◌≤◌, ◌^◌, drop, map}
use Rattle.uz_schedule.specs.Limits.{rises_from}
use Rattle.uz_schedule.proofs.entries.rest_lines_rise.Given as goal

-- what is left answers for all
abbrev pub invariant-loop-rest : goal.invariant-loop-rest
invariant-loop-rest l = record {
  small : l.least ≤ 2 ^ 16;
  left : rises_from l.least (map (λ r. r.line) (drop l.rest-index l.rests)) ≡ rises_from 0 (map (λ r. r.line) l.rests);
}
