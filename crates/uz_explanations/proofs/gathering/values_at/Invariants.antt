use Rattle.std.proofs.Common.{◌≡◌, length}
use Rattle.uz_explanations.specs.Counting.{count_at, crowd}
use Rattle.uz_explanations.specs.Seen.{AreAllOf}
use Rattle.uz_explanations.proofs.gathering.values_at.Given as goal

-- with those that are left, of which there are so many
abbrev pub invariant-loop-left : goal.invariant-loop-left
invariant-loop-left l = record {
  kept : AreAllOf (crowd l.pc l.rest) (crowd l.pc l.instances) l.values;
  count : l.left ≡ count_at l.pc l.rest;
}

abbrev pub decreases-loop-left : goal.decreases-loop-left
decreases-loop-left l = length l.rest
