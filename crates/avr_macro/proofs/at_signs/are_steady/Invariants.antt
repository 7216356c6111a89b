use Rattle.std.proofs.Common.{◌≡◌, drop}
use Rattle.avr_macro.specs.AtSigns.{are_steady}
use Rattle.avr_macro.proofs.at_signs.are_steady.Given as goal

-- the lines that are left tell
abbrev pub invariant-loop-n : goal.invariant-loop-n
invariant-loop-n l = are_steady (drop l.n l.lines) ≡ are_steady l.lines
