use Rattle.uz_cert.proofs.TextLaws.{LineLaw, found_text, only_text, first_fault, faulty_text}
use Rattle.uz_cert.proofs.{Lines.LineSpelling, WholeText.gives_version}
use Rattle.uz_cert.proofs.reading.read_version.Goals as goal

pub returns : goal.returns
returns c =
    let h = c.line_or_fault.ensures in
    let law : LineLaw = record { read = h.read; allowed = h.allowed; refused = h.refused; faulty = h.faulty } in
    let line_laws : LineSpelling = record { again = c.said_lines.ensures.again; only = c.said_lines.ensures.only } in
    let version = c.args.version in
    let text = c.args.text.now in
    let gives = c.read_text.ensures.gives in
    record {
      found = found_text law version text c.read_text.result gives;
      only = only_text law version text c.read_text.result gives;
      well_formed = c.read_text.ensures.well_formed;
      version = gives_version line_laws version text c.read_text.result gives;
      first = first_fault law version text c.read_text.result gives;
      faulty = faulty_text law version text c.read_text.result gives;
      exact = gives;
    }
