use Rattle.std.proofs.Common.{◌≡◌, ℕ, ◌<◌, get_or, length, false}
use Rattle.uz_proposal.specs.Visits.{is_still}
use Rattle.uz_proposal.proofs.visits.still_same.Given as goal

-- those before the counter
abbrev pub invariant-loop-n : goal.invariant-loop-n
invariant-loop-n l = record {
  count : length l.still ≡ 32;
  still : (i : ℕ) → i < l.n → get_or l.still i false ≡ is_still (get_or l.same i false) (get_or l.first i 0) (get_or l.now i 0);
}
