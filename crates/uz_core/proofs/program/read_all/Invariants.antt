use Rattle.std.proofs.Common.{◌≡◌, length}
use Rattle.uz_core.specs.Programs.{AreReadings}
use Rattle.uz_core.proofs.program.read_all.Given as goal

-- the words so far are read
abbrev pub invariant-loop-at : goal.invariant-loop-at
invariant-loop-at l = (length l.readings.items ≡ l.at) × AreReadings l.image l.readings.items
