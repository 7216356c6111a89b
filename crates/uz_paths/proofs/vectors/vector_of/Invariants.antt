use Rattle.std.proofs.Common.{◌<◌, ℕ}
use Rattle.uz_schedule.specs.Lines.{order_of}
use Rattle.uz_schedule.specs.Schedule.{response_clocks}
use Rattle.uz_paths.specs.Numbers.{IsVectorOf}
use Rattle.uz_paths.proofs.vectors.vector_of.Given as goal

-- it isn't the vector of any rest so far
abbrev pub invariant-loop-k : goal.invariant-loop-k
invariant-loop-k l = (j : ℕ) → j < l.k → IsVectorOf (response_clocks l.response) (order_of l.schedule) l.rests j l.at → ⊥
