use Rattle.std.proofs.Common.{◌≡◌, ◌+◌, drop}
use Rattle.uz_paths.specs.Successors.{count_below}
use Rattle.uz_paths.proofs.successors.count_below.Given as goal

-- those so far are below it
abbrev pub invariant-loop-i : goal.invariant-loop-i
invariant-loop-i l = l.i + count_below l.number (drop l.i l.numbers) ≡ count_below l.number l.numbers
