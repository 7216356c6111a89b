use Rattle.std.proofs.Common.{◌≡◌, ℕ, [], length, slice_index_or}
use Rattle.uz_search.proofs.facts.empty_chains.Given as goal

abbrev pub invariant-loop-place : goal.invariant-loop-place
invariant-loop-place l = record {
  count : length l.chains.items ≡ l.place;
  none : (q : ℕ) → slice_index_or l.chains.items q [] ≡ [];
}
