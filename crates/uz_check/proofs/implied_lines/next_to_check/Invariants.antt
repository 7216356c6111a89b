use Rattle.uz_check.proofs.Common.{◌≡◌, ℕ, ◌≤◌, ◌<◌, true, is_implied}
use Rattle.uz_check.proofs.implied_lines.next_to_check.Given as goal

-- all so far are implied
abbrev pub invariant-each : goal.invariant-each
invariant-each l = (j : ℕ) → l.line ≤ j → j < l.l → is_implied l.cert l.point j ≡ true
