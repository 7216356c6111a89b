use Rattle.uz_join.proofs.Common.{◌≡◌, ◌<◌, ℕ, get_or, val_of, Fact, Val}
use Rattle.uz_join.proofs.facts_at.say_each.Given as goal

-- those so far are said
abbrev pub invariant-loop-i : goal.invariant-loop-i
invariant-loop-i l = (j : ℕ) (d : Fact) (e : Val) → j < l.i → val_of l.line l.count (get_or l.facts j d) ≡ get_or l.vals j e
