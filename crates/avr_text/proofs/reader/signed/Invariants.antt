use Rattle.std.proofs.Common.{◌≡◌}
use Rattle.std.specs.List.{slice_range}
use Rattle.avr_text.specs.Reading.{signed}
use Rattle.avr_text.proofs.reader.signed.Given as goal

-- the signs that are left do to the value what all do to the operand
abbrev pub invariant-loop-i : goal.invariant-loop-i
invariant-loop-i l = signed (slice_range l.tokens l.from l.i) l.value ≡ signed (slice_range l.tokens l.from l.at) l.fn.value
