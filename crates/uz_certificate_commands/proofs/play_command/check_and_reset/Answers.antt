use Rattle.std.proofs.Common.{refl, inl, ap, subst, ◌∙◌}
use Rattle.uz_pads.specs.Pads.{pairs_of}
use Rattle.uz_console.specs.Consoles.{StandsFor}
use Rattle.uz_check.specs.Certified.{Certified}
use Rattle.uz_files.specs.Answers.{one_line}
use Rattle.uz_certificate_commands.specs.VerdictLines.{refused_line}
use Rattle.uz_files.specs.declared.status.Status.TheVariants.{Refused}
use Rattle.uz_files.specs.RunFiles.{start_of}
use Rattle.uz_certificate_commands.proofs.play_command.check_and_reset.Goals as goal

pub returns-in-Ok-reset : goal.returns-in-Ok-reset
returns-in-Ok-reset c =
    let parts = c.into_parts-image.ensures.parts in
    let image = parts.0 ∙ c.in-Ok.ensures.same.0 in
    let cert = parts.1 ∙ c.in-Ok.ensures.same.1 in
    record {
      same = cert;
      accepted = c.in-Ok.ensures.accepted.0 refl;
      certified = subst (λ i. Certified i c.args.cert) c.in-Ok.ensures.same.0
          (subst (λ d. Certified c.in-Ok.pair.image d) c.in-Ok.ensures.same.1 c.in-Ok.ensures.certified);
      in_range = c.reset_is_in_range.ensures c.args.image (pairs_of c.args.pads.items) c.args.cert.head.irq c.is_flash.ensures;
      stands =
          subst (λ d. StandsFor c.in-Ok-reset.console (start_of c.args.image c.args.pads.items d.head.irq)) cert
          (subst (λ i. StandsFor c.in-Ok-reset.console (start_of i c.args.pads.items c.into_parts-image.result.1.head.irq)) image
          c.in-Ok-reset.ensures.stands);
    }

pub returns-in_ok-ending-in-Err : goal.returns-in_ok-ending-in-Err
returns-in_ok-ending-in-Err c =
    let answer = c.in_ok-ending-in-Err.ensures
    ∙ ap (λ cert. one_line Refused (refused_line cert c.in-Err.pair.why)) c.in-Err.ensures.refused.2 in
    record { answers = λ clocks frames. inl (c.in-Err.pair.why, c.in-Err.ensures.refused.0, answer); status = ap (λ a. a.status) answer }
