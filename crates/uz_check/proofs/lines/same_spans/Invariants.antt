use Rattle.uz_check.proofs.Common.{◌≡◌, drop, same_spans}
use Rattle.uz_check.proofs.lines.same_spans.Given as goal

abbrev pub invariant-each : goal.invariant-each
invariant-each l = same_spans (drop l.i l.a) (drop l.i l.b) ≡ same_spans l.a l.b
