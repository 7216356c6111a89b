use Rattle.std.proofs.Common.{◌∙◌, inr, sym, ap}
use Rattle.avr_asm.specs.Emission.{data_state, with_number}
use Rattle.avr_asm.proofs.EmissionLemmas.{data_end, data_more}
use Rattle.avr_asm.proofs.emission.data.Goals as goal

pub loop-part-preserved : goal.loop-part-preserved
loop-part-preserved c =
    data_more _ _ _ _ _ _ _ _ c.loop-part-test.true
    (c.in_ok-fault.ensures ∙ ap (with_number c.args.wide (data_state c.loop-part.fault c.loop-part.bytes.items))
    c.data_number-value.ensures) ∙ c.loop-part.invariant

pub returns-in-Some : goal.returns-in-Some
returns-in-Some c = inr (sym c.loop-part.invariant ∙ data_end _ _ _ _ _ _ c.loop-part-test.false
    ∙ ap (λ fault. data_state fault c.loop-part.bytes.items) c.in-Some.is)

pub returns-in-None : goal.returns-in-None
returns-in-None c =
    sym c.loop-part.invariant ∙ data_end _ _ _ _ _ _ c.loop-part-test.false
    ∙ ap (λ fault. data_state fault c.loop-part.bytes.items) c.in-None.is
