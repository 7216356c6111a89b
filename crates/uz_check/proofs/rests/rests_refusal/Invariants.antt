use Rattle.uz_check.proofs.Common.{◌≡◌, ℕ, ◌<◌, None, Some, slice_get, Rest, RestRefusal}
use Rattle.uz_check.proofs.rests.rests_refusal.Given as goal

-- none so far is refused
abbrev pub invariant-loop-i : goal.invariant-loop-i
invariant-loop-i l = (j : ℕ) → j < l.i → (rest : Rest) × (slice_get l.cert.rests j ≡ Some rest) × RestRefusal l.cert rest None
