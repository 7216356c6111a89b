use Rattle.std.proofs.Common.{ℕ, ◌<◌}
use Rattle.uz_core.specs.Arithmetic.{bit_is_set}
use Rattle.uz_console.specs.Entry.{BitHolds, flag_at}
use Rattle.uz_console.proofs.entry.flags_match.Given as goal

abbrev pub invariant-loop-k : goal.invariant-loop-k
invariant-loop-k l = (i : ℕ) → i < l.k → BitHolds (flag_at l.flags i) (bit_is_set l.sreg i)
