use Rattle.uz_search.proofs.Common.{ℕ, ◌≤◌, place_on, shown_at, KeepsMarks, MarksOwn, Seen}
use Rattle.uz_search.proofs.marks.mark_all.Given as goal

abbrev pub invariant-each : goal.invariant-each
invariant-each l = record {
  kept : KeepsMarks l.fn.marks l.marks;
  own : MarksOwn l.program l.at l.most l.emit l.fn.marks l.marks;
  seen : (k : ℕ) → 1 ≤ k → k ≤ l.step → Seen l.marks (place_on l.program l.at k) (shown_at l.emit k);
}
