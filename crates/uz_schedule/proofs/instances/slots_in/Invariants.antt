use Rattle.std.proofs.Common.{◌≡◌, map, take}
use Rattle.arrayvec.specs.ArrayVec.{array_vec_len}
use Rattle.uz_schedule.specs.declared.facts.Val.TheVariants.{Range}
use Rattle.uz_schedule.proofs.instances.slots_in.Given as goal

-- one slot for each range so far
abbrev pub invariant-loop-range : goal.invariant-loop-range
invariant-loop-range l = record {
  count : array_vec_len l.slots ≡ l.range-index;
  first : l.slots.items ≡ map Range (take l.range-index l.ranges.items);
}
