use Rattle.uz_rules.proofs.Common.{◌^◌, AllWithin, ByteRepeats}
use Rattle.uz_rules.proofs.periods.longest_of.Given as goal

-- those so far say the same after the longest period
abbrev pub invariant-loop-place : goal.invariant-loop-place
invariant-loop-place l = AllWithin (ByteRepeats (2 ^ l.longest.exponent)) l.facts 0 l.place
