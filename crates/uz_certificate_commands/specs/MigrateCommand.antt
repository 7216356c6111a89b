-- `migrate OLD NEW`: a certificate of version 1 is read, its text of version 2 is written, and then a line tells how many
-- points it has.
use Rattle.std.specs.Prelude.{◌≡◌, ◌↔◌, ℕ, List, ◌++◌, codes, decimal, length, Option}
use Rattle.uz_shelf.specs.Files.{FileMap, HoldsFile}
use Rattle.uz_hex.specs.Reading.{Flash}
use Rattle.uz_schedule.specs.declared.certificate.Cert.{Cert}
use Rattle.uz_schedule.specs.declared.kinds.RuleVersion.TheVariants.{Two}
use Rattle.uz_check.specs.Acceptance.{Accepts}
use Rattle.uz_check.specs.OldRules.{AcceptsOld}
use Rattle.uz_cert.specs.Texts.{own_text}
use Rattle.uz_files.specs.Answers.{Answer, Write}
use Rattle.uz_files.specs.Writing.{written_then}
use Rattle.uz_files.specs.Reading.{Reads, Says, certificate_limit}
use Rattle.uz_files.specs.Formats.{RefusesOldCertificate, SpellsCertificate, SpellsOldCertificate}

abbrev pub migrated_line : Cert → List ℕ
migrated_line cert = codes "migrated points " ++ decimal (length cert.points) ++ codes "\n"

-- the text, of version 2: what a text of version 1 says has the rules of version 2
abbrev pub new_file : List ℕ → Cert → Write
new_file name cert = record { name = name; bytes = own_text cert }

-- once the certificate is read
abbrev pub IsMigrated : List ℕ → Cert → Answer → Type 0
IsMigrated newer cert answer = answer ≡ written_then (new_file newer cert) (migrated_line cert)

abbrev pub MigrateAnswers : Option FileMap → Type 0 → List ℕ → List ℕ → Answer → Type 0
MigrateAnswers files load_fault older newer = Reads files load_fault older certificate_limit SpellsOldCertificate RefusesOldCertificate
    (IsMigrated newer)

-- the file is within its limit, and it spells a certificate
pub record MigrateSucceeds (files : Option FileMap) (older : List ℕ) : Type 0 where
  pub certificate : Cert
  pub spelled : Says files older certificate_limit SpellsOldCertificate certificate

-- Acceptance of texts

-- a text of version 1 spells a certificate that the rules of that version accept with the image
pub record AcceptsOldText (image : Flash) (text : List ℕ) : Type 0 where
  pub certificate : Cert
  pub spelled : SpellsOldCertificate text certificate
  pub accepted : AcceptsOld image certificate

-- a text of version 2 or 3 spells one that today's rules accept
pub record AcceptsText (image : Flash) (text : List ℕ) : Type 0 where
  pub certificate : Cert
  pub spelled : SpellsCertificate text certificate
  pub accepted : Accepts image certificate

-- What a `migrate` that is done is worth: the new file holds a text of the very certificate that the old one spells, of version 2, since
-- its rules are those of version 2, and with each image this text is accepted exactly where the old one is by the rules of its version
pub record FilesMigrated (before after : Option FileMap) (older newer : List ℕ) : Type 0 where
  pub certificate : Cert
  pub spelled : Says before older certificate_limit SpellsOldCertificate certificate
  pub text : List ℕ
  pub holds : HoldsFile after newer text
  pub is_text : SpellsCertificate text certificate
  pub rules : certificate.head.version ≡ Two
  pub kept : (image : Flash) → AcceptsOldText image spelled.bytes ↔ AcceptsText image text
