use Rattle.std.specs.Prelude.{ℕ, ◌<◌}
use Rattle.uz_explanations.specs.Readings.{Reading}
use Rattle.uz_transfer.specs.Step.{IsReadAt}
use Rattle.uz_explanations.proofs.laws.flash_has_one_reading.Given as goal

-- the words so far are read
abbrev pub invariant-loop-pc : goal.invariant-loop-pc
invariant-loop-pc l = (read : Reading) × ((at : ℕ) → at < l.pc → IsReadAt l.image at (read at))
