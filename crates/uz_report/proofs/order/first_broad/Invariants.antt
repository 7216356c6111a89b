use Rattle.std.proofs.Common.{◌≡◌, ◌<◌}
use Rattle.std.specs.Prelude.{IfSome}
use Rattle.uz_report.specs.Order.{first_broad}
use Rattle.uz_report.proofs.order.first_broad.Given as goal

-- the first of the lines so far
abbrev pub invariant-loop-line : goal.invariant-loop-line
invariant-loop-line l = record {
  first : l.first ≡ first_broad l.pulses l.line;
  there : IfSome l.first (λ at. at < l.line);
}
