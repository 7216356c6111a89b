use Rattle.uz_join.specs.Replacing.{AreSoFar}
use Rattle.uz_join.proofs.replacing.join_by.Given as goal

-- the points so far have been passed
abbrev pub invariant-loop-i : goal.invariant-loop-i
invariant-loop-i l = AreSoFar l.fn.points.items l.i l.replacing
