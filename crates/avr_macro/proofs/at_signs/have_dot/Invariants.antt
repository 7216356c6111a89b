use Rattle.std.proofs.Common.{◌≡◌, drop}
use Rattle.avr_macro.specs.AtSigns.{any_dot}
use Rattle.avr_macro.proofs.at_signs.have_dot.Given as goal

-- the arguments that are left tell
abbrev pub invariant-loop-n : goal.invariant-loop-n
invariant-loop-n l = any_dot (drop l.n l.arguments) ≡ any_dot l.arguments
