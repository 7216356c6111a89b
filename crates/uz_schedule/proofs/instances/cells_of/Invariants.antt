use Rattle.std.proofs.Common.{◌≡◌, map, take}
use Rattle.arrayvec.specs.ArrayVec.{array_vec_len}
use Rattle.uz_schedule.specs.Instances.{cell_span}
use Rattle.uz_schedule.proofs.instances.cells_of.Given as goal

-- one range for each fact so far
abbrev pub invariant-loop-fact : goal.invariant-loop-fact
invariant-loop-fact l = record {
  count : array_vec_len l.cells ≡ l.fact-index;
  first : l.cells.items ≡ map (cell_span l.line l.count) (take l.fact-index l.facts.items);
}
