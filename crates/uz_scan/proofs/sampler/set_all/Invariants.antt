use Rattle.std.proofs.Common.{◌≡◌, ℕ, ◌<◌, ◌≤◌, slice_index}
use Rattle.uz_scan.proofs.sampler.set_all.Given as goal

abbrev pub invariant-loop-k : goal.invariant-loop-k
invariant-loop-k l = record {
  set : (i : ℕ) → l.from ≤ i → i < l.k → slice_index l.samples i ≡ l.value;
  others : (i : ℕ) → i < l.from → slice_index l.samples i ≡ slice_index l.initial.samples i;
  later : (i : ℕ) → l.k ≤ i → slice_index l.samples i ≡ slice_index l.initial.samples i;
  still : l.to < l.from → l.k ≡ l.from;
}
