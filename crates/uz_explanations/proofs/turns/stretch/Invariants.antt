use Rattle.std.proofs.Common.{◌≡◌, ◌+◌, ◌-◌}
use Rattle.uz_explanations.specs.Turns.{stretch_from, stretch}
use Rattle.uz_explanations.proofs.turns.stretch.Given as goal

-- none that was tried comes again
abbrev pub invariant-loop-tried : goal.invariant-loop-tried
invariant-loop-tried l = stretch_from l.trail l.i (l.tried + 1) (64 - l.tried) ≡ stretch l.trail l.i
