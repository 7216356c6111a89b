use Rattle.std.proofs.Common.{◌≡◌, ◌≤◌, ◌+◌, drop}
use Rattle.uz_paths.specs.Words.{cell_count}
use Rattle.uz_paths.proofs.words.cell_count.Given as goal

-- what was counted, and what is left
abbrev pub invariant-loop-hint : goal.invariant-loop-hint
invariant-loop-hint l = record {
  few : l.count ≤ l.hint-index;
  left : l.count + cell_count (drop l.hint-index l.hints) ≡ cell_count l.hints;
}
