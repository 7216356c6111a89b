use Rattle.uz_paths.proofs.KindLemmas.{AreMade}
use Rattle.uz_paths.proofs.kinds.schedule_of.Given as goal

-- each line so far has its kind
abbrev pub invariant-loop-line : goal.invariant-loop-line
invariant-loop-line l = AreMade l.marks l.frame l.line l.numbers.items l.kinds.items l.lengths.items
