use Rattle.uz_join.proofs.Common.{◌≡◌, ◌<◌, ℕ, Some, map, slice_get, take, array_vec_len, Ends, RangeFits, byte_fact}
use Rattle.uz_join.proofs.points.cell_facts.Given as goal

-- one fact for each so far
abbrev pub invariant-loop-range : goal.invariant-loop-range
invariant-loop-range l = record {
  count : array_vec_len l.facts ≡ l.range-index;
  ordered : (i : ℕ) (e : Ends) → i < l.range-index → slice_get l.cells.items i ≡ Some e → RangeFits 255 e;
  first : l.facts.items ≡ map byte_fact (take l.range-index l.cells.items);
}
