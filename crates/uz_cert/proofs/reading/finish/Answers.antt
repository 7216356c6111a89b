use Rattle.uz_cert.proofs.{Common.inr, Common.ap, Common.◌∙◌, Common.cert_before, Common.pieces_left, Steps.late_piece}
use Rattle.uz_cert.proofs.reading.finish.Goals as goal

pub returns-in-Some : goal.returns-in-Some
returns-in-Some c =
    inr (ap (λ o. cert_before c.args.draft c.args.line.now (pieces_left o)) c.in-Some.is ∙ late_piece c.args.draft c.args.line.now
    c.in-Some.field-0.now)
