use Rattle.std.proofs.Common.{◌≡◌, [], length, IfNone}
use Rattle.avr_macro.specs.Lines.{after_word}
use Rattle.avr_macro.specs.Readers.{from_next}
use Rattle.avr_macro.proofs.readers.Reader.past_word.Given as goal

-- the bytes that are left tell
abbrev pub invariant-loop-ahead : goal.invariant-loop-ahead
invariant-loop-ahead l = record {
  left : after_word (from_next l.ahead l.self) ≡ after_word (from_next l.fn.next l.initial.self);
  ended : IfNone l.ahead (l.self ≡ []);
}

abbrev pub decreases-loop-ahead : goal.decreases-loop-ahead
decreases-loop-ahead l = length (from_next l.ahead l.self)
