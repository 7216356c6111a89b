use Rattle.std.proofs.Common.{◌≡◌, ◌++◌, drop, map}
use Rattle.avr_macro.specs.Lines.{trimmed}
use Rattle.avr_macro.proofs.arguments.trim_each.Given as goal

-- the arguments so far, and those of the rest
abbrev pub invariant-loop-part : goal.invariant-loop-part
invariant-loop-part l = l.arguments ++ map trimmed (map (λ part. part.now) (drop l.part-index l.parts)) ≡ map trimmed
    (map (λ part. part.now) l.parts)
