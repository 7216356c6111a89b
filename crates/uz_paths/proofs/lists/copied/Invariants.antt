use Rattle.std.proofs.Common.{◌≡◌, take}
use Rattle.uz_paths.proofs.lists.copied.Given as goal

-- what is copied so far
abbrev pub invariant-loop-number : goal.invariant-loop-number
invariant-loop-number l = l.copy.items ≡ take l.number-index l.from
