use Rattle.std.proofs.Common.{◌≡◌, drop}
use Rattle.uz_paths.specs.Words.{has_half}
use Rattle.uz_paths.proofs.words.has_half.Given as goal

-- what is left answers for all
abbrev pub invariant-loop-hint : goal.invariant-loop-hint
invariant-loop-hint l = has_half l.from l.to (drop l.hint-index l.hints) ≡ has_half l.from l.to l.hints
