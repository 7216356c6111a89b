use Rattle.avr_asm.proofs.HintLemmas.{range_told}
use Rattle.avr_asm.proofs.hints.ranged.Goals as goal

pub returns : goal.returns
returns c = range_told _ _ _ _ _ c.bytes.result c.both.result c.short-at.ensures c.part.ensures.part c.bytes.ensures c.both.ensures
