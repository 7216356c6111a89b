use Rattle.std.proofs.Common.{◌≡◌, ◌≤◌, ℕ, [], take}
use Rattle.uz_explanations.specs.Differing.{values}
use Rattle.uz_explanations.proofs.Keeping.{lent}
use Rattle.uz_explanations.proofs.blocks.most_parts.Given as goal

-- those so far say nothing of parts from that number on
abbrev pub invariant-loop-x : goal.invariant-loop-x
invariant-loop-x g l = (k : ℕ) → l.most ≤ k → values g.P.Parts.class k (lent (take l.x-index l.here)) ≡ []
