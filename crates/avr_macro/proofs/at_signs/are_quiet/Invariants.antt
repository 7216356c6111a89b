use Rattle.std.proofs.Common.{◌≡◌, drop}
use Rattle.avr_macro.specs.AtSigns.{are_quiet}
use Rattle.avr_macro.proofs.at_signs.are_quiet.Given as goal

-- the lines that are left tell
abbrev pub invariant-loop-n : goal.invariant-loop-n
invariant-loop-n l = are_quiet (drop l.n l.lines) ≡ are_quiet l.lines
