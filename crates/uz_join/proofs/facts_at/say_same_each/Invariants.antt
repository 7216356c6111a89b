use Rattle.uz_join.proofs.Common.{◌≡◌, ◌<◌, ℕ, get_or, val_of, Fact}
use Rattle.uz_join.proofs.facts_at.say_same_each.Given as goal

-- those so far say the same
abbrev pub invariant-loop-i : goal.invariant-loop-i
invariant-loop-i l = (j : ℕ) (d : Fact) → j < l.i → val_of l.line l.of_a (get_or l.a j d) ≡ val_of l.line l.of_b (get_or l.b j d)
