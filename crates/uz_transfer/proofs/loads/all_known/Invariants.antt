use Rattle.std.proofs.Common.{◌≡◌, drop}
use Rattle.uz_transfer.specs.Memory.{all_flags}
use Rattle.uz_range.specs.Answers.{is_known}
use Rattle.uz_transfer.proofs.loads.all_known.Given as goal

-- what is left answers for all
abbrev pub invariant-loop-b : goal.invariant-loop-b
invariant-loop-b l = all_flags is_known (drop l.b-index l.flags) ≡ all_flags is_known l.flags
