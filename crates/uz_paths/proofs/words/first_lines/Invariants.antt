use Rattle.std.proofs.Common.{◌≡◌, drop}
use Rattle.uz_paths.specs.Words.{first_lines}
use Rattle.uz_paths.proofs.words.first_lines.Given as goal

-- what is left answers for all
abbrev pub invariant-loop-hint : goal.invariant-loop-hint
invariant-loop-hint l = first_lines (drop l.hint-index l.hints) ≡ first_lines l.hints
