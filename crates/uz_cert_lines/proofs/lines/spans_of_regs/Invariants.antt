use Rattle.std.proofs.Common.{◌≡◌, take, map, length}
use Rattle.uz_cert_lines.specs.Lines.{span_of_fact}
use Rattle.uz_cert_lines.proofs.lines.spans_of_regs.Given as goal

abbrev pub invariant-loop-r : goal.invariant-loop-r
invariant-loop-r l = record {
  size : length l.spans ≡ 32;
  done : take l.r l.spans ≡ map span_of_fact (take l.r l.facts);
}
