use Rattle.std.proofs.Common.{ℕ, ◌<◌, ◌+◌, ◌-◌, length, slice_index}
use Rattle.uz_console.specs.Consoles.{state_of}
use Rattle.uz_console.specs.Entry.{IsIn, ends_at}
use Rattle.uz_console.proofs.console.Console.stack_matches.Given as goal

abbrev pub invariant-loop-i : goal.invariant-loop-i
invariant-loop-i l = (k : ℕ) → k < l.i → IsIn (ends_at l.slots k)
    (slice_index (state_of l.self).space.bytes ((state_of l.self).core.sp + length l.slots - k))
