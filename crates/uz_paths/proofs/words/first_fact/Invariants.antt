use Rattle.std.proofs.Common.{◌≡◌, drop}
use Rattle.uz_paths.specs.Words.{first_fact}
use Rattle.uz_paths.proofs.words.first_fact.Given as goal

-- what is left answers for all
abbrev pub invariant-loop-hint : goal.invariant-loop-hint
invariant-loop-hint l = first_fact l.pc l.place (drop l.hint-index l.hints) ≡ first_fact l.pc l.place l.hints
