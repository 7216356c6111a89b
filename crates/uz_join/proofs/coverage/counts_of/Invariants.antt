use Rattle.uz_join.proofs.Common.{◌≡◌, ◌<◌, ℕ, length, Some, slice_get, Instance, SaidBy}
use Rattle.uz_join.proofs.coverage.counts_of.Given as goal

-- those so far are said
abbrev pub invariant-loop-i : goal.invariant-loop-i
invariant-loop-i l = record {
  size : length l.counts.items ≡ l.i;
  said : (j : ℕ) (x : Instance) → j < l.i → slice_get l.nodes j ≡ Some x → SaidBy l.points l.numbers l.counts.items j x;
}
