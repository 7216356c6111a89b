use Rattle.std.proofs.Common.{◌≡◌, [], drop, map, Ok}
use Rattle.avr_asm.specs.Emission.{data_from, data_state}
use Rattle.avr_asm.proofs.emission.data.Given as goal

-- what is there so far goes on to what all operands give
abbrev pub invariant-loop-part : goal.invariant-loop-part
invariant-loop-part l =
    data_from l.wide l.line l.symbols (data_state l.fault l.bytes.items) (drop l.part-index (map (λ p. p.now) l.parts)) ≡ data_from l.wide
    l.line l.symbols (Ok []) (map (λ p. p.now) l.parts)
