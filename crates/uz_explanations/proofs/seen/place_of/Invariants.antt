use Rattle.std.proofs.Common.{◌≡◌, drop, map}
use Rattle.uz_explanations.specs.Putting.{is_among}
use Rattle.uz_explanations.proofs.seen.place_of.Given as goal

-- what is left answers for all
abbrev pub invariant-loop-place : goal.invariant-loop-place
invariant-loop-place g l =
    is_among (map g.T.Said.value (drop l.place l.values)) (g.T.Said.value l.value) ≡ is_among (map g.T.Said.value l.values) (g.T.Said.value l.value)
