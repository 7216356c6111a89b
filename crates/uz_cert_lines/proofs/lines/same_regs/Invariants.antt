use Rattle.std.proofs.Common.{◌≡◌, take, length}
use Rattle.uz_cert_lines.proofs.lines.same_regs.Given as goal

abbrev pub invariant-loop-r : goal.invariant-loop-r
invariant-loop-r l = record {
  size : length l.copy ≡ 32;
  done : take l.r l.copy ≡ take l.r l.facts;
}
