use Rattle.uz_cert.proofs.TextLaws.{LineLaw, decided, one_certificate, one_fault, not_both, text_certificate, certificate_text}
use Rattle.uz_cert.proofs.TextLaws.{text_fault, fault_text}
use Rattle.uz_cert.proofs.{Common.Two, Common.Three, Told.text_tells, WholeText.text_fits}
use Rattle.uz_cert.proofs.reading.text_or_fault.Goals as goal

pub returns : goal.returns
returns c =
    let h = c.line_or_fault.ensures in
    let law : LineLaw = record { read = h.read; allowed = h.allowed; refused = h.refused; faulty = h.faulty } in
    record {
      either = decided law;
      one_certificate = one_certificate law;
      one_fault = one_fault law;
      not_both = not_both law;
      read = text_certificate law;
      again = certificate_text law;
      refused = text_fault law;
      faulty = fault_text law;
      fits = text_fits (record { again = c.said_lines.ensures.again; only = c.said_lines.ensures.only });
      told_2 = text_tells Two;
      told_3 = text_tells Three;
    }
