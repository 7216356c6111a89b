use Rattle.std.proofs.Common.{◌∙◌}
use Rattle.avr_text.proofs.Signs.{signed_step}
use Rattle.avr_text.proofs.reader.signed.Goals as goal

pub loop-i-preserved-in-Some : goal.loop-i-preserved-in-Some
loop-i-preserved-in-Some c =
    signed_step _ _ _ _ _ _ c.loop-i-test.true c.in-Some.ensures.lookup.0 c.in-Some.ensures.lookup.1 c.sign_applied-value.ensures
    ∙ c.loop-i.invariant
