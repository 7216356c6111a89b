use Rattle.std.proofs.Common.{◌≡◌, ◌≤◌, ◌*◌}
use Rattle.uz_report.specs.Findings.{kinds_out_below}
use Rattle.uz_report.proofs.findings.kinds_out.Given as goal

-- those of the kinds so far
abbrev pub invariant-loop-kind : goal.invariant-loop-kind
invariant-loop-kind l = record {
  so_far : l.out ≡ kinds_out_below l.schedule l.kind;
  few : l.out ≤ 2 * l.kind;
}
