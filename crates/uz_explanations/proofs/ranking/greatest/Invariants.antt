use Rattle.std.proofs.Common.{◌≡◌, ◌≤◌, drop, length, take}
use Rattle.uz_explanations.specs.Ranking.{most_crowds, ranked}
use Rattle.uz_explanations.proofs.ranking.greatest.Given as goal

-- the greatest of the program counters from here on
abbrev pub invariant-down : goal.invariant-down
invariant-down l = record {
  within : l.pc ≤ length l.counts;
  so_far : l.crowds.items ≡ take most_crowds (ranked l.pc (drop l.pc l.counts));
}

abbrev pub decreases-down : goal.decreases-down
decreases-down l = l.pc
