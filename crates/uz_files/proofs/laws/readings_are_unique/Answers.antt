use Rattle.avr_asm.specs.FirstFault.{IsFirstFault as IsSourceFault}
use Rattle.avr_text.specs.WhyNames.{asm_why_name}
use Rattle.uz_cert.specs.Reading.{version_told}
use Rattle.uz_cert.specs.Texts.{IsFirstFault as IsCertificateFault, IsToldFault}
use Rattle.uz_hex.specs.HexText.{IsFirstFault as IsHexFault}
use Rattle.uz_hex.specs.WhyNames.{hex_why_name}
use Rattle.uz_cert_lines.specs.WhyNames.{cert_why_name}
use Rattle.uz_cert_lines.specs.declared.version.Version.TheVariants.{First}
use Rattle.uz_hex.specs.Lines.{lines_of}
use Rattle.uz_pads.specs.WhyNames.{pad_why_name}
use Rattle.uz_files.specs.Formats.{HasPadFault}
use Rattle.uz_files.proofs.ReadingLemmas.{one_refusal}
use Rattle.uz_files.proofs.laws.readings_are_unique.Goals as goal

pub returns : goal.returns
returns c = record {
  source = record {
    one = c.assembly_is_unique.ensures;
    first = one_refusal IsSourceFault asm_why_name c.source_or_fault.ensures.one_fault;
    apart = λ text output fault spells refuses. c.source_or_fault.ensures.not_both text output fault.0 refuses.0 spells refuses.1;
  };
  image = record {
    one = c.hex_or_fault.ensures.one_image;
    first = one_refusal IsHexFault hex_why_name c.hex_or_fault.ensures.one_fault;
    apart = λ text image fault spells refuses. c.hex_or_fault.ensures.not_both text image fault.0 refuses.0 spells refuses.1;
  };
  certificate = record {
    one = λ text. c.text_or_fault.ensures.one_certificate (version_told text) text;
    first = one_refusal IsToldFault cert_why_name (λ text. c.text_or_fault.ensures.one_fault (version_told text) text);
    apart = λ text cert fault spells refuses.
        c.text_or_fault.ensures.not_both (version_told text) text cert fault.0 refuses.0 spells refuses.1;
  };
  old_certificate = record {
    one = c.text_or_fault.ensures.one_certificate First;
    first = one_refusal (IsCertificateFault First) cert_why_name (c.text_or_fault.ensures.one_fault First);
    apart = λ text cert fault spells refuses. c.text_or_fault.ensures.not_both First text cert fault.0 refuses.0 spells refuses.1;
  };
  pads = record {
    one = λ text. c.reading_is_unique.ensures.list (lines_of text);
    first = one_refusal HasPadFault pad_why_name (λ text. c.reading_is_unique.ensures.fault (lines_of text));
    apart = λ text pads fault spells refuses.
        c.reading_is_unique.ensures.apart (lines_of text) pads fault.0 refuses.0 spells refuses.1;
  };
}
