use Rattle.uz_rules.proofs.Common.{◌≡◌, drop, with_registers}
use Rattle.uz_rules.proofs.moving.put_registers.Given as goal

-- what is left puts the rest
abbrev pub invariant-loop-place : goal.invariant-loop-place
invariant-loop-place l = with_registers l.point l.line l.count (drop l.place-index l.places) l.at ≡ with_registers l.point l.line l.count l.places l.initial.at
