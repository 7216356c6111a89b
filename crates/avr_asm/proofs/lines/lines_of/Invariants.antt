use Rattle.std.proofs.Common.{◌≡◌, ◌++◌, ◌≤◌, ◌-◌, length, map, drop}
use Rattle.avr_asm.specs.Lines.{lines_of}
use Rattle.avr_asm.proofs.lines.lines_of.Given as goal

-- the lines so far, and those of the rest
abbrev pub invariant-loop-start : goal.invariant-loop-start
invariant-loop-start l = record {
  within : l.start ≤ length l.text;
  left : map (λ line. line.now) l.lines.items ++ lines_of (drop l.start l.text) ≡ lines_of l.text;
}

abbrev pub decreases-loop-start : goal.decreases-loop-start
decreases-loop-start l = length l.text - l.start
