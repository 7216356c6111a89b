use Rattle.uz_rules.proofs.Common.{◌≡◌, drop, length, with_stack}
use Rattle.uz_rules.proofs.moving.put_slots.Given as goal

-- what is left puts the rest
abbrev pub invariant-loop-place : goal.invariant-loop-place
invariant-loop-place l = record {
  as_many : length l.at.stack.items ≡ length l.point.stack.items;
  rest : with_stack l.point l.line l.count (drop l.place-index l.places) l.at ≡ with_stack l.point l.line l.count l.places l.initial.at;
}
