use Rattle.uz_search.proofs.Common.{◌≡◌, ◌<◌, ℕ, Some, slice_get, Main, Instance}
use Rattle.uz_search.proofs.program.starts_in_main.Given as goal

-- none so far is of main
abbrev pub invariant-each : goal.invariant-each
invariant-each l = (k : ℕ) (s : Instance) → k < l.start-index → slice_get l.starts k ≡ Some s → s.kind ≡ Main → ⊥
