use Rattle.uz_search.proofs.Common.{◌≡◌, ◌<◌, max, drop, most_clocks}
use Rattle.uz_search.proofs.passing.most_clocks.Given as goal

abbrev pub invariant-each : goal.invariant-each
invariant-each l = record {
  left : max l.most (most_clocks l.program l.at (drop l.to-index l.out)) ≡ most_clocks l.program l.at l.out;
  few : l.most < 140000;
}
