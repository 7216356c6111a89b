use Rattle.std.proofs.Common.{subst, sym}
use Rattle.uz_hex.specs.Reading.{Flash}
use Rattle.uz_schedule.specs.declared.certificate.Cert.{Cert}
use Rattle.uz_check.specs.Certified.{Certified}
use Rattle.uz_certificate_commands.specs.CheckedValues.{IsChecked}
use Rattle.uz_certificate_commands.proofs.PairLemmas.{refused_verdict}
use Rattle.uz_certificate_commands.proofs.pair_command.ending_of.Goals as goal

pub returns-in_ok-line-in-Accepted-clause-worth : goal.returns-in_ok-line-in-Accepted-clause-worth
returns-in_ok-line-in-Accepted-clause-worth g c = λ image certificate known done.
    let pair = c.in-Accepted.pair in
    let checked = subst (IsChecked image certificate) c.in-Accepted.is known in
    subst (λ (i : Flash). g.T.PairText.worth i certificate) checked.0
    (subst (λ (d : Cert). g.T.PairText.worth pair.image d) checked.1
    (c.in_ok-line-in-Accepted.ensures.worth
    (subst (λ (i : Flash). Certified i pair.cert) (sym checked.0)
    (subst (λ (d : Cert). Certified image d) (sym checked.1) checked.3))))

pub returns-in-Refused-clause-answer : goal.returns-in-Refused-clause-answer
returns-in-Refused-clause-answer g c = λ image certificate known.
    refused_verdict g.T.PairText.text_of image certificate c.args.checked c.in-Refused.ending c.in-Refused.is known
