use Rattle.std.proofs.Common.{◌≡◌, take, map, length}
use Rattle.uz_cert_lines.specs.Lines.{span_of_fact}
use Rattle.uz_cert_lines.proofs.lines.spans_of.Given as goal

abbrev pub invariant-loop-fact : goal.invariant-loop-fact
invariant-loop-fact g l = record {
  room : length l.spans.items ≡ l.fact-index;
  done : l.spans.items ≡ map span_of_fact (take l.fact-index l.facts);
}
