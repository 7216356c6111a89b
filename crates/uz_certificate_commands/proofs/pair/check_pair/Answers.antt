use Rattle.std.proofs.Common.{refl, ◌∙◌, ap, subst}
use Rattle.uz_check.specs.Certified.{Certified}
use Rattle.uz_files.specs.Answers.{one_line}
use Rattle.uz_files.specs.declared.status.Status.TheVariants.{Refused}
use Rattle.uz_certificate_commands.specs.VerdictLines.{refused_line}
use Rattle.uz_certificate_commands.proofs.pair.check_pair.Goals as goal

pub returns-in-Ok : goal.returns-in-Ok
returns-in-Ok c = (
  c.in-Ok.ensures.same.0,
  c.in-Ok.ensures.same.1,
  c.verdict_is_unique.ensures.none c.args.image c.args.cert (c.in-Ok.ensures.accepted.0 refl),
  subst (λ image. Certified image c.args.cert) c.in-Ok.ensures.same.0
      (subst (λ cert. Certified c.in-Ok.pair.image cert) c.in-Ok.ensures.same.1 c.in-Ok.ensures.certified),
)

pub returns-in_ok-refusal-in-Err : goal.returns-in_ok-refusal-in-Err
returns-in_ok-refusal-in-Err c = (
  c.in-Err.pair.why,
  c.in-Err.ensures.refused.0,
  c.in_ok-refusal-in-Err.ensures ∙ ap (λ cert. one_line Refused (refused_line cert c.in-Err.pair.why)) c.in-Err.ensures.refused.2,
)
