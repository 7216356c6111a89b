use Rattle.std.proofs.Common.{◌≡◌, ◌-◌, ◌≤◌, length, drop}
use Rattle.uz_hex.specs.HexText.{lines_of}
use Rattle.uz_hex.specs.Reading.{read_lines, read_text}
use Rattle.uz_hex.proofs.reading.read_text.Given as goal

-- what is left leads where all of it does
abbrev pub invariant-loop-length : goal.invariant-loop-length
invariant-loop-length l = record {
  within : l.start ≤ length l.text;
  counted : l.before ≤ l.start;
  same : read_lines l.before l.base l.image (lines_of (drop l.start l.text)) ≡ read_text l.text;
}

abbrev pub decreases-loop-length : goal.decreases-loop-length
decreases-loop-length l = length l.text - l.start
