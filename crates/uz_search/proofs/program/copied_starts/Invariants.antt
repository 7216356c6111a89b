use Rattle.std.proofs.Common.{◌≡◌, take}
use Rattle.uz_search.proofs.program.copied_starts.Given as goal

abbrev pub invariant-each : goal.invariant-each
invariant-each l = l.copy.items ≡ take l.start-index l.starts
