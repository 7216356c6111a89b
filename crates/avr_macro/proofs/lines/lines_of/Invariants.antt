use Rattle.std.proofs.Common.{◌≡◌, ◌++◌, ◌+◌, ◌≤◌, drop, length}
use Rattle.avr_macro.specs.Lines.{lines_from, lines_of}
use Rattle.avr_macro.proofs.lines.lines_of.Given as goal

-- the lines so far, and those of the rest
abbrev pub invariant-loop-byte : goal.invariant-loop-byte
invariant-loop-byte l = record {
  left : l.lines ++ lines_from l.line.items (drop l.byte-index l.text) ≡ lines_of l.text;
  few : length l.lines + length l.line.items ≤ l.byte-index;
}
