use Rattle.std.proofs.Common.{◌≡◌, take}
use Rattle.uz_explanations.specs.Counting.{crowd}
use Rattle.uz_explanations.proofs.Keeping.{lent}
use Rattle.uz_explanations.proofs.gathering.crowd_of.Given as goal

-- those so far
abbrev pub invariant-loop-x : goal.invariant-loop-x
invariant-loop-x l = lent l.here.items ≡ crowd l.pc (take l.x-index l.block)
