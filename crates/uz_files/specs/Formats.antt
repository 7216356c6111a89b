-- What the files of each format spell, and their first faults, by the relations of their readers' crates.
use Rattle.std.specs.Prelude.{ℕ, List}
use Rattle.avr_asm.specs.FirstFault.{IsFirstFault as IsSourceFault}
use Rattle.avr_asm.specs.Relation.{IsAssembly}
use Rattle.avr_text.specs.WhyNames.{asm_why_name}
use Rattle.uz_cert.specs.Texts.{IsCertificateText, IsFirstFault as IsCertificateFault, IsToldFault, IsToldText}
use Rattle.uz_hex.specs.HexText.{IsHexOf, IsFirstFault as IsHexFault}
use Rattle.uz_hex.specs.WhyNames.{hex_why_name}
use Rattle.uz_cert_lines.specs.WhyNames.{cert_why_name}
use Rattle.uz_cert_lines.specs.declared.version.Version.TheVariants.{First}
use Rattle.uz_schedule.specs.declared.certificate.Cert.{Cert}
use Rattle.uz_hex.specs.Lines.{lines_of}
use Rattle.uz_pads.specs.Lines.{IsFirstFault as IsPadFault, IsRead}
use Rattle.uz_pads.specs.WhyNames.{pad_why_name}
use Rattle.uz_pads.specs.declared.errors.PadWhy.{PadWhy}
use Rattle.uz_pads.specs.declared.pads.Pad.{Pad}
use Rattle.uz_files.specs.Reading.{Fault, IsReader, Refuses}

-- a source spells what it assembles to, and a HEX file and a certificate file an image and a certificate

abbrev pub RefusesSource : List ℕ → Fault → Type 0
RefusesSource = Refuses IsSourceFault asm_why_name

abbrev pub RefusesHex : List ℕ → Fault → Type 0
RefusesHex = Refuses IsHexFault hex_why_name

-- a certificate, in a version of its text that is written: 3 where the first line says so, and else 2
abbrev pub SpellsCertificate : List ℕ → Cert → Type 0
SpellsCertificate = IsToldText

abbrev pub RefusesCertificate : List ℕ → Fault → Type 0
RefusesCertificate = Refuses IsToldFault cert_why_name

-- and in the version before them
abbrev pub SpellsOldCertificate : List ℕ → Cert → Type 0
SpellsOldCertificate = IsCertificateText First

abbrev pub RefusesOldCertificate : List ℕ → Fault → Type 0
RefusesOldCertificate = Refuses (IsCertificateFault First) cert_why_name

-- a pad file spells pairs of pad words

abbrev pub SpellsPads : List ℕ → List Pad → Type 0
SpellsPads text pads = IsRead (lines_of text) pads

abbrev pub HasPadFault : List ℕ → ℕ → PadWhy → Type 0
HasPadFault text line why = IsPadFault (lines_of text) line why

abbrev pub RefusesPads : List ℕ → Fault → Type 0
RefusesPads = Refuses HasPadFault pad_why_name

-- each text has one reading or one first fault
pub record Readings : Type 0 where
  pub source : IsReader IsAssembly RefusesSource
  pub image : IsReader IsHexOf RefusesHex
  pub certificate : IsReader SpellsCertificate RefusesCertificate
  pub old_certificate : IsReader SpellsOldCertificate RefusesOldCertificate
  pub pads : IsReader SpellsPads RefusesPads
