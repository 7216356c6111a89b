use Rattle.std.proofs.Common.{◌≡◌, length}
use Rattle.avr_macro.specs.AtSigns.{is_plain}
use Rattle.avr_macro.proofs.at_signs.is_plain.Given as goal

-- the bytes that are left tell
abbrev pub invariant-loop-rest : goal.invariant-loop-rest
invariant-loop-rest l = is_plain l.rest ≡ is_plain l.fn.line

abbrev pub decreases-loop-rest : goal.decreases-loop-rest
decreases-loop-rest l = length l.rest
