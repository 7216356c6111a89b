use Rattle.std.proofs.Common.{◌≡◌, ℕ, ◌<◌, get_or, length}
use Rattle.uz_core.specs.Core.{register}
use Rattle.uz_console.specs.Consoles.{state_of}
use Rattle.uz_proposal.proofs.visits.all_registers.Given as goal

-- the registers before the counter
abbrev pub invariant-loop-n : goal.invariant-loop-n
invariant-loop-n l = record {
  count : length l.values ≡ 32;
  values : (i : ℕ) → i < l.n → get_or l.values i 0 ≡ register (state_of l.console).core i;
}
