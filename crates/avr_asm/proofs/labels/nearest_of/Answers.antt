use Rattle.std.proofs.Common.{◌+◌, ◌-◌, ◌∙◌, ap, arith}
use Rattle.avr_asm.proofs.NearestLemmas.{none_by_halving, found_by_halving, lent}
use Rattle.avr_asm.proofs.labels.nearest_of.Goals as goal

pub returns-then-after-eq0 : goal.returns-then-after-eq0
returns-then-after-eq0 c = none_by_halving _ _ _ _ (ap (λ n. n + 1) c.from.ensures) (omega arith) c.first_from-after.ensures.place

pub returns : goal.returns
returns c =
    lent _ _ _ c.get.ensures.lookup.0 c.get.ensures.lookup.1 ∙ found_by_halving _ _ _ _ _ _ _
    _ c.requires (ap (λ n. n + 1) c.from.ensures) (omega arith) c.first_from-after.ensures.bound
    c.first_from-after.ensures.place c.from-2.ensures c.first_from.ensures.place
