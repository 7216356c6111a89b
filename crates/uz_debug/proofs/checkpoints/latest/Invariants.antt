use Rattle.std.proofs.Common.{◌<◌, ◌≤◌, IfSome, length}
use Rattle.std.specs.Prelude.{slice_index_or}
use Rattle.uz_debug.specs.declared.timeline.Checkpoint.{Checkpoint}
use Rattle.uz_debug.specs.Checkpoints.{turn_in}
use Rattle.uz_debug.proofs.checkpoints.latest.Given as goal

abbrev pub invariant-loop-at : goal.invariant-loop-at
invariant-loop-at l = IfSome l.found (λ at. (at < length l.saves) × ((d : Checkpoint) → turn_in (slice_index_or l.saves at d) ≤ l.target))
