use Rattle.std.proofs.Common.{◌≡◌, take}
use Rattle.arrayvec.specs.ArrayVec.{array_vec_len}
use Rattle.uz_schedule.proofs.instances.spans_in.Given as goal

-- the ranges so far
abbrev pub invariant-loop-range : goal.invariant-loop-range
invariant-loop-range l = record {
  count : array_vec_len l.spans ≡ l.range-index;
  first : l.spans.items ≡ take l.range-index l.ranges.items;
}
