use Rattle.uz_check.proofs.Common.{ℕ, ◌≤◌, ◌<◌, ◌+◌, ◌-◌, None, Keeps, InstanceRefusal}
use Rattle.uz_check.proofs.points.line_refusal.Given as goal

-- none so far is refused, and each was looked at once
abbrev pub invariant-loop-c : goal.invariant-loop-c
invariant-loop-c l = record {
  none : (j : ℕ) → l.visit.point.now.c0 ≤ j → j < l.c → InstanceRefusal l.visit.image.now l.visit.cert.now l.visit.id l.l j None;
  few : l.looked ≤ l.fn.looked + (l.c - l.visit.point.now.c0);
  keeps : Keeps l.visit.point.now l.last;
}
