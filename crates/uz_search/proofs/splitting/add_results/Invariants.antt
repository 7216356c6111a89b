use Rattle.uz_search.proofs.Common.{◌≡◌, ◌≤◌, ◌*◌, ◌++◌, drop, length, pieces_each}
use Rattle.uz_search.proofs.splitting.add_results.Given as goal

abbrev pub invariant-each : goal.invariant-each
invariant-each l = record {
  out : l.out.items ++ pieces_each l.most l.register (drop l.known-index l.results) ≡ pieces_each l.most l.register l.results;
  room : length l.out.items ≤ l.known-index * l.most;
}
