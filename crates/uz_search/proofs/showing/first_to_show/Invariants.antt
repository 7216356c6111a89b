use Rattle.uz_search.proofs.Common.{◌≡◌, ◌<◌, ℕ, Some, slice_get, Instance, Shows}
use Rattle.uz_search.proofs.showing.first_to_show.Given as goal

-- none so far shows it
abbrev pub invariant-each : goal.invariant-each
invariant-each l = (i : ℕ) (x : Instance) → i < l.number → slice_get l.nodes i ≡ Some x
    → Shows l.image l.program x l.shown.place l.shown.event → ⊥
