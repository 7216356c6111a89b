use Rattle.uz_check.proofs.Common.{◌≡◌, ℕ, ◌<◌, ◌≤◌, ◌+◌, take, None, Some, slice_get, instances_to_check_in, Point, PointRefusal}
use Rattle.uz_check.proofs.points.points_refusal.Given as goal

-- none so far is refused, and what isn't implied of them was looked at
abbrev pub invariant-points : goal.invariant-points
invariant-points l = record {
  none : (j : ℕ) → j < l.id → (point : Point) × (slice_get l.cert.points j ≡ Some point) × PointRefusal l.image l.cert j point None;
  few : l.looked ≤ l.fn.looked + instances_to_check_in l.cert (take l.id l.cert.points);
}
