use Rattle.std.proofs.Common.{◌≡◌, ◌++◌, drop, map, take}
use Rattle.uz_paths.specs.Splits.{with_split}
use Rattle.uz_paths.proofs.splits.set_splits.Given as goal

-- the points so far have their splits
abbrev pub invariant-each : goal.invariant-each
invariant-each l = l.points ≡ map (with_split l.splits) (take l.place l.initial.points) ++ drop l.place l.initial.points
