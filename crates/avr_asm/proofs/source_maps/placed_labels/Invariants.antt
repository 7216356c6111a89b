use Rattle.std.proofs.Common.{◌≡◌, ◌++◌, drop, map}
use Rattle.avr_asm.specs.SourceMap.{placed_labels}
use Rattle.avr_asm.proofs.source_maps.placed_labels.Given as goal

-- the labels so far, and those of the lines that are left
abbrev pub invariant-loop-i : goal.invariant-loop-i
invariant-loop-i l =
    l.labels.items ++ placed_labels (drop l.i (map (λ line. line.now) l.lines)) (drop l.i l.addresses) ≡ placed_labels
    (map (λ line. line.now) l.lines) l.addresses
