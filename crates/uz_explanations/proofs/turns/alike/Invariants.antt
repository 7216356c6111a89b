use Rattle.std.proofs.Common.{◌≡◌, ◌+◌, drop}
use Rattle.uz_explanations.specs.Beginnings.{common}
use Rattle.uz_explanations.specs.Turns.{same_pc}
use Rattle.uz_explanations.proofs.turns.alike.Given as goal

-- what is alike so far, and what is left
abbrev pub invariant-loop-k : goal.invariant-loop-k
invariant-loop-k l = l.k + common same_pc (drop l.k l.a) (drop l.k l.b) ≡ common same_pc l.a l.b
