use Rattle.uz_search.proofs.Common.{◌≡◌, is_clear_way}
use Rattle.uz_search.proofs.stuck.passes_clear.Given as goal

abbrev pub invariant-each : goal.invariant-each
invariant-each l = l.clear ≡ is_clear_way l.program l.at l.next.emit l.step
