use Rattle.uz_check.proofs.Common.{◌≡◌, ℕ, suc, false, ◌≤◌, ◌<◌, ◌+◌, ◌-◌, ◌*◌, None, is_implied, lines_to_check, Keeps, LineRefusal}
use Rattle.uz_check.proofs.points.lines_refusal.Given as goal

-- none so far is refused, those that aren't implied were looked at, and this line isn't implied
abbrev pub invariant-lines : goal.invariant-lines
invariant-lines l = record {
  begun : l.visit.point.now.l0 ≤ l.l;
  within : l.l ≤ suc l.visit.point.now.l1;
  none : (j : ℕ) → l.visit.point.now.l0 ≤ j → j < l.l → LineRefusal l.visit.image.now l.visit.cert.now l.visit.id l.visit.point.now j None;
  few : l.looked ≤ l.fn.looked + lines_to_check l.visit.cert.now l.visit.point.now (l.l - l.visit.point.now.l0)
      * (suc l.visit.point.now.c1 - l.visit.point.now.c0);
  not_implied : l.l ≤ l.visit.point.now.l1 → is_implied l.visit.cert.now l.visit.point.now l.l ≡ false;
  keeps : Keeps l.visit.point.now l.last;
}

abbrev pub decreases-lines : goal.decreases-lines
decreases-lines l = suc l.visit.point.now.l1 - l.l
