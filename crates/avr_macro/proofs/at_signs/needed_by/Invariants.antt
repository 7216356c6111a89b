use Rattle.std.proofs.Common.{◌≡◌, drop, max}
use Rattle.avr_macro.specs.AtSigns.{needed_by}
use Rattle.avr_macro.proofs.at_signs.needed_by.Given as goal

-- what is needed so far, and what the rest needs
abbrev pub invariant-loop-n : goal.invariant-loop-n
invariant-loop-n l = max l.needed (needed_by (drop l.n l.lines)) ≡ needed_by l.lines
