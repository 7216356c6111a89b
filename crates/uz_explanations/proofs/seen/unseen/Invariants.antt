use Rattle.std.proofs.Common.{◌≡◌, ℕ, [], length}
use Rattle.uz_explanations.specs.Seen.{seen_at}
use Rattle.uz_explanations.proofs.seen.unseen.Given as goal

-- so many parts without values
abbrev pub invariant-loop-number : goal.invariant-loop-number
invariant-loop-number g l = record {
  size : length l.all.items ≡ l.number;
  none : (k : ℕ) → seen_at g.T.Said.value l.all.items k ≡ [];
}
