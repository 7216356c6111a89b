use Rattle.std.proofs.Common.{◌≡◌, map, take}
use Rattle.std.specs.Prelude.{filter}
use Rattle.uz_report.specs.Shown.{shows}
use Rattle.uz_report.proofs.shown.clocks_of.Given as goal

abbrev pub invariant-loop-event : goal.invariant-loop-event
invariant-loop-event l = l.clocks.items ≡ map (λ e. e.clock) (filter (λ e. shows l.what e.kind) (take l.event-index l.events))
