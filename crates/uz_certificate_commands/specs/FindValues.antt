-- The values of the code that search for a certificate of an image.
use Rattle.std.specs.Prelude.{◌≡◌, ℕ, List, Option, Ok, Err}
use Rattle.uz_shelf.specs.Files.{FileMap}
use Rattle.uz_hex.specs.Reading.{Flash}
use Rattle.avr_asm.specs.declared.output.Hint.{Hint as SourceHint}
use Rattle.uz_schedule.specs.declared.kinds.Response.{Response}
use Rattle.uz_schedule.specs.declared.certificate.Cert.{Cert}
use Rattle.uz_cert.specs.Texts.{own_text}
use Rattle.uz_search.specs.declared.found.NotFound.{NotFound}
use Rattle.uz_files.specs.declared.ending.Ending.{Ending}
use Rattle.uz_files.specs.declared.status.Status.TheVariants.{Refused}
use Rattle.uz_files.specs.declared.work.Work.{Work}
use Rattle.uz_files.specs.Formats.{SpellsCertificate}
use Rattle.uz_certificate_commands.specs.SearchLines.{Allowed, not_found_line}
use Rattle.uz_certificate_commands.specs.VerdictLines.{accepted_line}
use Rattle.uz_certificate_commands.specs.HintedSearch.{HintSource, SpellsHinted}
use Rattle.uz_certificate_commands.specs.declared.find_command.Sought.{Sought}
use Rattle.uz_certificate_commands.specs.declared.find_command.Sought.TheVariants.{Made, Refusal}

-- what is to be written and printed of a certificate
pub record IsWorkOfCert (cert : Cert) (work : Work) : Type 0 where
  pub is_text : work.text.items ≡ own_text cert
  pub reads_back : SpellsCertificate work.text.items cert
  pub is_line : work.line.items ≡ accepted_line cert

-- of an answer of the search
pub record IsCertWork (image : Flash) (irq : Response) (hints : List SourceHint) (work : Work) : Type 0 where
  pub cert : Cert
  pub allowed : Allowed image irq hints (Ok cert)
  pub of : IsWorkOfCert cert work

pub record IsSearchRefusal (image : Flash) (irq : Response) (hints : List SourceHint) (ending : Ending) : Type 0 where
  pub why : NotFound
  pub allowed : Allowed image irq hints (Err why)
  pub status : ending.status ≡ Refused
  pub is_line : ending.line.items ≡ not_found_line why

abbrev pub IsSoughtFor : Flash → Response → List SourceHint → Sought → Type 0
IsSoughtFor image irq hints (Made work) = IsCertWork image irq hints work
IsSoughtFor image irq hints (Refusal ending) = IsSearchRefusal image irq hints ending

-- of both files
pub record IsFoundFor (files : Option FileMap) (hex hints : List ℕ) (irq : Response) (sought : Sought) : Type 0 where
  pub image : Flash
  pub source : HintSource
  pub spelled : SpellsHinted files hex hints image source
  pub is : IsSoughtFor image irq source.output.hints sought
