use Rattle.std.proofs.Common.{◌≡◌, ◌++◌}
use Rattle.std.specs.List.{slice_range}
use Rattle.avr_macro.proofs.bodies.Body.copied.Given as goal

-- the lines so far, and those that are left
abbrev pub invariant-loop-n : goal.invariant-loop-n
invariant-loop-n l = l.lines ++ slice_range l.self l.n l.end ≡ slice_range l.self l.start l.end
