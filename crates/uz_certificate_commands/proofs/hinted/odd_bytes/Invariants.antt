use Rattle.uz_certificate_commands.proofs.HintedBytes.{AreOddBelow}
use Rattle.uz_certificate_commands.proofs.hinted.odd_bytes.Given as goal

-- the odd bytes below the address
abbrev pub invariant-loop-at : goal.invariant-loop-at
invariant-loop-at l = AreOddBelow l.at l.placed l.image l.odd
