use Rattle.std.proofs.Common.{◌≡◌, map, take}
use Rattle.arrayvec.specs.ArrayVec.{array_vec_len}
use Rattle.uz_schedule.specs.Instances.{val_of}
use Rattle.uz_schedule.proofs.instances.slots_of.Given as goal

-- one slot for each fact so far
abbrev pub invariant-loop-fact : goal.invariant-loop-fact
invariant-loop-fact l = record {
  count : array_vec_len l.slots ≡ l.fact-index;
  first : l.slots.items ≡ map (val_of l.line l.count) (take l.fact-index l.facts.items);
}
