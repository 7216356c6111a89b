use Rattle.std.proofs.Common.{◌≡◌, length, false}
use Rattle.avr_macro.specs.AtSigns.{opens_dot}
use Rattle.avr_macro.proofs.at_signs.opens_dot.Given as goal

-- the bytes that are left tell
abbrev pub invariant-loop-rest : goal.invariant-loop-rest
invariant-loop-rest l = opens_dot l.named l.rest ≡ opens_dot false l.fn.line

abbrev pub decreases-loop-rest : goal.decreases-loop-rest
decreases-loop-rest l = length l.rest
