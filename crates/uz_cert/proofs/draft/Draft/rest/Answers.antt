use Rattle.uz_cert.proofs.Common.{◌≡◌, subst, reads}
use Rattle.uz_cert_lines.specs.Lines.{rest_form}
use Rattle.uz_cert.proofs.draft.Draft.rest.Goals as goal

pub returns : goal.returns
returns c =
    let d = c.args.self.now in
    subst (λ cells. c.rest_line.result ≡ reads (rest_form d.sizes.lines d.sizes.points cells d.rest_least) c.args.words.now)
    c.as_slice-cells.ensures.value c.rest_line.ensures
