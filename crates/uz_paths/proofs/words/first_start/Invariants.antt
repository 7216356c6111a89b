use Rattle.std.proofs.Common.{◌≡◌, drop}
use Rattle.uz_paths.specs.Words.{first_start}
use Rattle.uz_paths.proofs.words.first_start.Given as goal

-- what is left answers for all
abbrev pub invariant-loop-hint : goal.invariant-loop-hint
invariant-loop-hint l = first_start (drop l.hint-index l.hints) ≡ first_start l.hints
