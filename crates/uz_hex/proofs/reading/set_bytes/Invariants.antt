use Rattle.std.proofs.Common.{◌≡◌, ◌+◌, drop}
use Rattle.uz_hex.specs.Reading.{with_bytes}
use Rattle.uz_hex.proofs.reading.set_bytes.Given as goal

-- what is left to set leads where all of it does
abbrev pub invariant-loop-i : goal.invariant-loop-i
invariant-loop-i l = with_bytes l.image (l.start + l.i) (drop l.i l.bytes) ≡ with_bytes l.fn.image l.start l.bytes
