use Rattle.std.proofs.Common.{◌<◌, ℕ}
use Rattle.uz_paths.specs.Kinds.{IsKind}
use Rattle.uz_paths.proofs.kinds.kind_with.Given as goal

-- none so far has these events and so many clocks
abbrev pub invariant-loop-i : goal.invariant-loop-i
invariant-loop-i l = (j : ℕ) → j < l.i → IsKind l.kinds l.lengths j l.events l.clocks → ⊥
