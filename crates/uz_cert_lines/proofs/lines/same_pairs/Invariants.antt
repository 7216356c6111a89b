use Rattle.std.proofs.Common.{◌≡◌, take, length}
use Rattle.uz_cert_lines.proofs.lines.same_pairs.Given as goal

abbrev pub invariant-loop-k : goal.invariant-loop-k
invariant-loop-k l = record {
  size : length l.copy ≡ 3;
  done : take l.k l.copy ≡ take l.k l.facts;
}
