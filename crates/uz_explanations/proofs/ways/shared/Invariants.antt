use Rattle.std.proofs.Common.{◌≡◌, ◌+◌, drop}
use Rattle.uz_explanations.specs.Beginnings.{common}
use Rattle.uz_explanations.specs.Ways.{same_instance}
use Rattle.uz_explanations.proofs.ways.shared.Given as goal

-- what is alike so far, and what is left
abbrev pub invariant-loop-k : goal.invariant-loop-k
invariant-loop-k l = l.k + common same_instance (drop l.k l.first) (drop l.k l.second) ≡ common same_instance l.first l.second
