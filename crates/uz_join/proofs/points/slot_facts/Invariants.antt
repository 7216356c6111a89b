use Rattle.uz_join.proofs.Common.{◌≡◌, ◌<◌, ℕ, Some, map, slice_get, take, array_vec_len, Val, IsOrderedVal, fact_of}
use Rattle.uz_join.proofs.points.slot_facts.Given as goal

-- one fact for each so far
abbrev pub invariant-loop-slot : goal.invariant-loop-slot
invariant-loop-slot l = record {
  count : array_vec_len l.facts ≡ l.slot-index;
  ordered : (i : ℕ) (v : Val) → i < l.slot-index → slice_get l.slots.items i ≡ Some v → IsOrderedVal v;
  first : l.facts.items ≡ map fact_of (take l.slot-index l.slots.items);
}
