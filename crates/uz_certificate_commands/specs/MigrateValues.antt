-- The values of the code that write a certificate anew.
use Rattle.std.specs.Prelude.{◌≡◌, ℕ, List, Option}
use Rattle.uz_shelf.specs.Files.{FileMap}
use Rattle.uz_schedule.specs.declared.certificate.Cert.{Cert}
use Rattle.uz_cert.specs.Texts.{own_text}
use Rattle.uz_files.specs.declared.work.Work.{Work}
use Rattle.uz_files.specs.Reading.{Says, certificate_limit}
use Rattle.uz_files.specs.Formats.{SpellsCertificate, SpellsOldCertificate}
use Rattle.uz_certificate_commands.specs.MigrateCommand.{migrated_line}

-- what is to be written and printed of a certificate
pub record IsWorkOf (cert : Cert) (work : Work) : Type 0 where
  pub text : work.text.items ≡ own_text cert
  pub reads_back : SpellsCertificate work.text.items cert
  pub line : work.line.items ≡ migrated_line cert

-- of the certificate in this file
pub record IsWork (files : Option FileMap) (older : List ℕ) (work : Work) : Type 0 where
  pub certificate : Cert
  pub spelled : Says files older certificate_limit SpellsOldCertificate certificate
  pub of : IsWorkOf certificate work
