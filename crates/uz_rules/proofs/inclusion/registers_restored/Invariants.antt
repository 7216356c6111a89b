use Rattle.uz_rules.proofs.Common.{◌≡◌, value_at, all_below, is_old_register}
use Rattle.uz_rules.proofs.inclusion.registers_restored.Given as goal

-- the test so far
abbrev pub invariant-loop-r : goal.invariant-loop-r
invariant-loop-r l = l.all ≡ all_below l.r (λ r. is_old_register r (value_at l.regs r))
