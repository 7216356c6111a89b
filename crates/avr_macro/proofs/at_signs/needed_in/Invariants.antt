use Rattle.std.proofs.Common.{◌≡◌, drop, max}
use Rattle.avr_macro.specs.AtSigns.{needed_from, needed_in}
use Rattle.avr_macro.proofs.at_signs.needed_in.Given as goal

-- what is needed so far, and what the rest needs
abbrev pub invariant-loop-byte : goal.invariant-loop-byte
invariant-loop-byte l = max l.needed (needed_from l.named (drop l.byte-index l.line)) ≡ needed_in l.line
