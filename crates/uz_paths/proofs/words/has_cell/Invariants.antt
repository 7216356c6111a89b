use Rattle.std.proofs.Common.{◌≡◌, drop}
use Rattle.uz_paths.specs.Words.{has_cell}
use Rattle.uz_paths.proofs.words.has_cell.Given as goal

-- what is left answers for all
abbrev pub invariant-loop-hint : goal.invariant-loop-hint
invariant-loop-hint l = has_cell l.address (drop l.hint-index l.hints) ≡ has_cell l.address l.hints
