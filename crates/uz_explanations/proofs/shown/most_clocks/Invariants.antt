use Rattle.std.proofs.Common.{◌≡◌, drop, max}
use Rattle.uz_explanations.specs.Ways.{most}
use Rattle.uz_explanations.proofs.ShownLemmas.{clocks_of_all}
use Rattle.uz_explanations.proofs.shown.most_clocks.Given as goal

-- the greatest so far, and those that are left
abbrev pub invariant-loop-exit : goal.invariant-loop-exit
invariant-loop-exit l = max l.most (most (clocks_of_all (drop l.exit-index l.exits))) ≡ most (clocks_of_all l.exits)
