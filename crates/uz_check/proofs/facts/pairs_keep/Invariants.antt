use Rattle.uz_check.proofs.Common.{◌≡◌, drop, list_all, pair_keeps_by_lines}
use Rattle.uz_check.proofs.facts.pairs_keep.Given as goal

abbrev pub invariant-each : goal.invariant-each
invariant-each l = list_all pair_keeps_by_lines (drop l.fact-index l.facts) ≡ list_all pair_keeps_by_lines l.facts
