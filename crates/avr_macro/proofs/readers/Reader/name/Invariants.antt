use Rattle.std.proofs.Common.{◌≡◌, ◌++◌, [], length, IfNone}
use Rattle.avr_macro.specs.Lines.{word_of}
use Rattle.avr_macro.specs.Readers.{from_next}
use Rattle.avr_macro.proofs.readers.Reader.name.Given as goal

-- the letters so far, and those of the rest
abbrev pub invariant-loop-byte : goal.invariant-loop-byte
invariant-loop-byte l = record {
  letters : l.name.items ++ word_of (from_next l.ahead l.self) ≡ word_of (from_next l.fn.next l.initial.self);
  ended : IfNone l.ahead (l.self ≡ []);
}

abbrev pub decreases-loop-byte : goal.decreases-loop-byte
decreases-loop-byte l = length (from_next l.ahead l.self)
