use Rattle.uz_join.proofs.Common.{◌≡◌, length, take, old_facts}
use Rattle.uz_join.proofs.points.old_facts.Given as goal

-- the first r registers
abbrev pub invariant-loop-r : goal.invariant-loop-r
invariant-loop-r l = record {
  count : length l.facts ≡ 32;
  first : take l.r l.facts ≡ old_facts 0 l.r;
}
