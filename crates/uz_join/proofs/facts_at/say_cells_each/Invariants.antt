use Rattle.uz_join.proofs.Common.{◌≡◌, ◌<◌, ℕ, get_or, Ends, cell_span, Fact}
use Rattle.uz_join.proofs.facts_at.say_cells_each.Given as goal

-- those so far are said
abbrev pub invariant-loop-i : goal.invariant-loop-i
invariant-loop-i l = (j : ℕ) (d : Fact) (e : Ends) → j < l.i → cell_span l.line l.count (get_or l.facts j d) ≡ get_or l.spans j e
