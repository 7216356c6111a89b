use Rattle.uz_check.proofs.Common.{refl, RestRefusal, sym, ◌∙◌}
use Rattle.uz_check.proofs.FrameTold.{rest_tells, rest_told}
use Rattle.uz_check.proofs.rests.rest_refusal.Goals as goal

pub returns-then-rest_passes : goal.returns-then-rest_passes
unfolding RestRefusal
returns-then-rest_passes c = rest_tells c.args.cert.now c.args.rest.now c.requires.fits.schedule c.requires.line
    (sym c.rest_passes.ensures ∙ c.if-rest_passes.true)

pub returns-else-rest_passes : goal.returns-else-rest_passes
unfolding RestRefusal
returns-else-rest_passes c = (
  λ passes. let e = sym (rest_told c.args.cert.now c.args.rest.now c.requires.fits.schedule c.requires.line passes)
      ∙ (sym c.rest_passes.ensures ∙ c.if-rest_passes.false) in cc e,
  refl,
)
