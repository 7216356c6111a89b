use Rattle.std.proofs.Common.{◌≡◌, map, take, slice_index_or}
use Rattle.uz_report.specs.Order.{kinds_pulses}
use Rattle.uz_report.specs.declared.pulse_kind.PulseKind.TheVariants.{Other}
use Rattle.uz_report.proofs.order.line_pulses.Given as goal

abbrev pub invariant-loop-kind : goal.invariant-loop-kind
invariant-loop-kind l = l.pulses.items ≡ map (λ kind. slice_index_or (kinds_pulses l.schedule) kind Other) (take l.kind-index l.schedule.lines)
