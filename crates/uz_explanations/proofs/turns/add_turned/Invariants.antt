use Rattle.std.proofs.Common.{◌≡◌, ◌++◌, drop}
use Rattle.uz_explanations.specs.Readings.{Reading, IsReading}
use Rattle.uz_explanations.specs.Turns.{lines_from, turned_lines}
use Rattle.uz_explanations.proofs.turns.add_turned.Given as goal

-- what is written, and what is left
abbrev pub invariant-loop-i : goal.invariant-loop-i
invariant-loop-i l =
    (read : Reading) → IsReading l.image read → l.text.items ++ lines_from l.image read l.labels l.trail l.i l.skip (drop l.i l.trail)
    ≡ l.initial.text.items ++ turned_lines l.image read l.labels l.trail
