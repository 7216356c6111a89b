use Rattle.std.proofs.Common.{◌≡◌, ◌≤◌, ◌++◌, drop, length}
use Rattle.uz_paths.specs.Rests.{rests_from, rests_of}
use Rattle.uz_paths.proofs.rests.rests_of.Given as goal

-- those so far, and what is left
abbrev pub invariant-loop-line : goal.invariant-loop-line
invariant-loop-line l = record {
  few : length l.rests.items ≤ l.line;
  left : l.rests.items ++ rests_from l.line (length l.rests.items) (drop l.line l.returns) ≡ rests_of l.returns;
}
