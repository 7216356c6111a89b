use Rattle.std.proofs.Common.{◌≡◌, drop}
use Rattle.uz_transfer.specs.Memory.{all_flags, is_old}
use Rattle.uz_transfer.proofs.loads.all_old.Given as goal

-- what is left answers for all
abbrev pub invariant-loop-b : goal.invariant-loop-b
invariant-loop-b l = all_flags is_old (drop l.b-index l.flags) ≡ all_flags is_old l.flags
