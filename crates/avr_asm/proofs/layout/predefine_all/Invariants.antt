use Rattle.std.proofs.Common.{◌≡◌, drop, map}
use Rattle.avr_asm.specs.Layout.{with_values}
use Rattle.avr_asm.proofs.layout.predefine_all.Given as goal

-- the names so far, and those that are left
abbrev pub invariant-loop-name : goal.invariant-loop-name
invariant-loop-name l =
    with_values (map (λ n. (n.0.now, n.1)) (drop l.name-index l.names)) l.symbols
    ≡ with_values (map (λ n. (n.0.now, n.1)) l.names) l.initial.symbols
