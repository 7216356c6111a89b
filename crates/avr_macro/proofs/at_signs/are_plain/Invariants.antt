use Rattle.std.proofs.Common.{◌≡◌}
use Rattle.std.specs.List.{slice_range}
use Rattle.avr_macro.specs.AtSigns.{are_plain}
use Rattle.avr_macro.proofs.at_signs.are_plain.Given as goal

-- the lines that are left tell
abbrev pub invariant-loop-n : goal.invariant-loop-n
invariant-loop-n l = are_plain (slice_range l.lines l.n l.to) ≡ are_plain (slice_range l.lines l.from l.to)
