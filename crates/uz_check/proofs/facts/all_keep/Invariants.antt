use Rattle.uz_check.proofs.Common.{◌≡◌, drop, list_all, keeps_by_lines}
use Rattle.uz_check.proofs.facts.all_keep.Given as goal

abbrev pub invariant-each : goal.invariant-each
invariant-each l = list_all keeps_by_lines (drop l.fact-index l.facts) ≡ list_all keeps_by_lines l.facts
