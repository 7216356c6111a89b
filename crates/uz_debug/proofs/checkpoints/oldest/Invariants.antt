use Rattle.std.proofs.Common.{◌<◌, ◌≤◌, IfSome, length}
use Rattle.uz_debug.proofs.checkpoints.oldest.Given as goal

abbrev pub invariant-loop-at : goal.invariant-loop-at
invariant-loop-at l = record { place : IfSome l.first (λ at. at < length l.saves); count : l.count ≤ l.at }
