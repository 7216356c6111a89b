use Rattle.uz_paths.specs.Faults.{FineBefore}
use Rattle.uz_paths.proofs.errors.first_fault.Given as goal

-- nothing is at fault so far
abbrev pub invariant-loop-i : goal.invariant-loop-i
invariant-loop-i l = FineBefore l.image l.irq l.hints l.i
