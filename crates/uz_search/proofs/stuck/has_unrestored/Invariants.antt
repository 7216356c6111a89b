use Rattle.uz_search.proofs.Common.{◌≡◌, ◌<◌, ℕ, Some, true, slice_get, Instance, restored}
use Rattle.uz_search.proofs.stuck.has_unrestored.Given as goal

abbrev pub invariant-each : goal.invariant-each
invariant-each l = (k : ℕ) (end : Instance) → k < l.end-index → slice_get l.ends k ≡ Some end → restored end ≡ true
