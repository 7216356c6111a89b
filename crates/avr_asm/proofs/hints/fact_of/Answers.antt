use Rattle.std.proofs.Common.{map}
use Rattle.avr_asm.proofs.HintLemmas.{fact_told}
use Rattle.avr_asm.proofs.hints.fact_of.Goals as goal

pub returns : goal.returns
returns c =
    fact_told c.args.line.now c.args.symbols.now (map (λ p. p.now) c.args.parts.now) c.args.following c.part.result.now
    c.fact_address-at.result c.place_of-place.result c.shorts.result _ c.fact_address-at.ensures c.place_of-place.ensures c.part.ensures.part c.shorts.ensures
    c.fact_at.ensures
