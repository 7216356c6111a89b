use Rattle.std.proofs.Common.{◌≡◌, map, take}
use Rattle.uz_join.specs.Joined.{rest_unnumbered}
use Rattle.uz_join.proofs.copies.rests_of.Given as goal

-- the rests so far
abbrev pub invariant-loop-rest : goal.invariant-loop-rest
invariant-loop-rest l = map rest_unnumbered l.all ≡ map rest_unnumbered (take l.rest-index l.rests)
