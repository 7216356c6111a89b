use Rattle.std.proofs.Common.{◌≡◌, ◌+◌, ◌++◌, drop, map}
use Rattle.avr_asm.specs.SourceMap.{hint_lines_from}
use Rattle.avr_asm.proofs.source_maps.hint_lines_of.Given as goal

-- the numbers so far, and those of the lines that are left
abbrev pub invariant-loop-i : goal.invariant-loop-i
invariant-loop-i l =
    l.numbers.items ++ hint_lines_from (l.i + 1) (drop l.i (map (λ line. line.now) l.lines)) ≡ hint_lines_from 1
    (map (λ line. line.now) l.lines)
