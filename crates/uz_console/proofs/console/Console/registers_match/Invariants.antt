use Rattle.std.proofs.Common.{ℕ, ◌<◌}
use Rattle.uz_core.specs.Core.{register}
use Rattle.uz_console.specs.Consoles.{state_of}
use Rattle.uz_console.specs.Entry.{IsIn, ends_at}
use Rattle.uz_console.proofs.console.Console.registers_match.Given as goal

abbrev pub invariant-loop-n : goal.invariant-loop-n
invariant-loop-n l = (r : ℕ) → r < l.n → IsIn (ends_at l.regs r) (register (state_of l.self).core r)
