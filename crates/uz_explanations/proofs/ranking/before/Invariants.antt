use Rattle.std.proofs.Common.{◌≡◌, ◌+◌, drop}
use Rattle.uz_explanations.specs.Ranking.{before}
use Rattle.uz_explanations.proofs.ranking.before.Given as goal

-- with those that are left
abbrev pub invariant-loop-crowd : goal.invariant-loop-crowd
invariant-loop-crowd l = record {
  left : l.place + before l.count (drop l.crowd-index l.crowds) ≡ before l.count l.crowds;
  all : l.place ≡ l.crowd-index;
}
