use Rattle.uz_search.proofs.Common.{◌≡◌, ◌+◌, ◌<◌, ◌≤◌, ℕ, [], length, slice_index_or, whole_pair, folded}
use Rattle.uz_search.proofs.facts.widen_pairs.Given as goal

-- the pairs so far are widened, the others are as they were
abbrev pub invariant-each : goal.invariant-each
invariant-each l = record {
  size : length l.pairs ≡ 3;
  done : (k : ℕ) → k < l.pair → slice_index_or l.pairs k whole_pair
      ≡ folded (slice_index_or l.chains (32 + k) []) (slice_index_or l.initial.pairs k whole_pair);
  left : (k : ℕ) → l.pair ≤ k → slice_index_or l.pairs k whole_pair ≡ slice_index_or l.initial.pairs k whole_pair;
}
