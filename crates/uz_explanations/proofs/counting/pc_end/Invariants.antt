use Rattle.std.proofs.Common.{◌≡◌, ◌≤◌, drop, max}
use Rattle.uz_explanations.specs.Counting.{pc_end}
use Rattle.uz_explanations.proofs.counting.pc_end.Given as goal

-- with what is left it is that of all
abbrev pub invariant-loop-x : goal.invariant-loop-x
invariant-loop-x l = record {
  left : max l.end (pc_end (drop l.x-index l.instances)) ≡ pc_end l.instances;
  few : l.end ≤ 65536;
}
