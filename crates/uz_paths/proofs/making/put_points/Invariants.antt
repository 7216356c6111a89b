use Rattle.std.proofs.Common.{◌≡◌, drop, reverse}
use Rattle.uz_paths.specs.Plan.{ByAnyPlan}
use Rattle.uz_paths.proofs.MakeLemmas.{AreSoFar}
use Rattle.uz_paths.proofs.making.put_points.Given as goal

-- the instances so far have their points, and the others are left
abbrev pub invariant-loop-i : goal.invariant-loop-i
invariant-loop-i l = record {
  left_are : reverse l.nodes.keys ≡ drop l.i l.fn.nodes.keys;
  so_far : ByAnyPlan l.rests l.fn.nodes.keys l.numbers l.links l.fn.points.items
      (λ image p s count. AreSoFar image p s l.rests l.fn.nodes.keys l.numbers count l.i l.nodes.keys l.points.items);
}
