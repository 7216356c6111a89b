use Rattle.std.proofs.Common.{◌≡◌}
use Rattle.uz_report.specs.Order.{are_wanted}
use Rattle.uz_report.proofs.order.is_field_at.Given as goal

abbrev pub invariant-loop-i : goal.invariant-loop-i
invariant-loop-i l = l.is_field ≡ are_wanted l.schedule l.pulses l.broad l.i
