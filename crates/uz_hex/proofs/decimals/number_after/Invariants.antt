use Rattle.std.proofs.Common.{◌≡◌, ◌<◌, ◌^◌, drop}
use Rattle.uz_hex.specs.Numbers.{number_after}
use Rattle.uz_hex.proofs.decimals.number_after.Given as goal

-- what is left goes on to what all of it is
abbrev pub invariant-loop-b : goal.invariant-loop-b
invariant-loop-b l = record {
  small : l.n < 2 ^ 36;
  left : number_after l.limit l.n (drop l.b-index l.digits) ≡ number_after l.limit 0 l.digits;
}
