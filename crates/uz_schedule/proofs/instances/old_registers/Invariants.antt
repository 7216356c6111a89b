use Rattle.std.proofs.Common.{◌≡◌, length, take}
use Rattle.uz_schedule.specs.Instances.{old_from}
use Rattle.uz_schedule.proofs.instances.old_registers.Given as goal

-- the first r registers
abbrev pub invariant-loop-r : goal.invariant-loop-r
invariant-loop-r l = record {
  count : length l.vals ≡ 32;
  first : take l.r l.vals ≡ old_from 0 l.r;
}
