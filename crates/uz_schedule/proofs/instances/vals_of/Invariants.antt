use Rattle.std.proofs.Common.{◌≡◌, length, map, take}
use Rattle.uz_schedule.specs.declared.facts.Val.TheVariants.{Range}
use Rattle.uz_schedule.proofs.instances.vals_of.Given as goal

-- the first r registers are known by the first r facts
abbrev pub invariant-loop-r : goal.invariant-loop-r
invariant-loop-r l = record {
  count : length l.vals ≡ 32;
  first : take l.r l.vals ≡ map Range (take l.r l.ranges);
}
