use Rattle.uz_rules.proofs.Common.{◌≡◌, drop, length, with_cells}
use Rattle.uz_rules.proofs.moving.put_cells.Given as goal

-- what is left puts the rest
abbrev pub invariant-loop-place : goal.invariant-loop-place
invariant-loop-place l = record {
  as_many : length l.at.cells.items ≡ length l.point.cells.items;
  rest : with_cells l.point l.line l.count (drop l.place-index l.places) l.at ≡ with_cells l.point l.line l.count l.places l.initial.at;
}
