use Rattle.std.proofs.Common.{◌≡◌, length, map, take}
use Rattle.uz_schedule.specs.Instances.{val_of}
use Rattle.uz_schedule.proofs.instances.registers_of.Given as goal

-- the first r registers are known by the first r facts
abbrev pub invariant-loop-r : goal.invariant-loop-r
invariant-loop-r l = record {
  count : length l.vals ≡ 32;
  first : take l.r l.vals ≡ map (val_of l.line l.count) (take l.r l.facts);
}
