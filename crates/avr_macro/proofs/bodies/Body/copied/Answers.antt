use Rattle.std.proofs.Common.{◌∙◌}
use Rattle.avr_macro.proofs.Slices.{copied_more}
use Rattle.avr_macro.proofs.bodies.Body.copied.Goals as goal

pub loop-n-preserved : goal.loop-n-preserved
loop-n-preserved c =
    copied_more _ _ _ _ _ _ _ c.loop-n-test.true c.requires.bound c.in_ok-lines.ensures (c.as_slice.ensures.value ∙ c.in_ok-line.ensures)
    c.loop-n.invariant
