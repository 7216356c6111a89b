use Rattle.uz_search.proofs.Common.{◌≡◌, ◌++◌, drop, flat_map, entries}
use Rattle.uz_search.proofs.program.entries_after.Given as goal

abbrev pub invariant-each : goal.invariant-each
invariant-each l = l.follow.items ++ flat_map (entries l.program) (drop l.end-index l.ends) ≡ flat_map (entries l.program) l.ends
