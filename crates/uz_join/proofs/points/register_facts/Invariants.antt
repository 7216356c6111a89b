use Rattle.uz_join.proofs.Common.{◌≡◌, ◌<◌, ℕ, Some, length, map, slice_get, take, Val, IsOrderedVal, fact_of}
use Rattle.uz_join.proofs.points.register_facts.Given as goal

-- the first r facts are of the first r registers
abbrev pub invariant-loop-r : goal.invariant-loop-r
invariant-loop-r l = record {
  count : length l.facts ≡ 32;
  ordered : (i : ℕ) (v : Val) → i < l.r → slice_get l.regs i ≡ Some v → IsOrderedVal v;
  first : take l.r l.facts ≡ map fact_of (take l.r l.regs);
}
