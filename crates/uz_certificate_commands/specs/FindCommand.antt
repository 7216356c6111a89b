-- `find HEX HINTS IRQ CERT`: a certificate of the image is searched by the hints, and it is written; or a line tells why none is found.
use Rattle.std.specs.Prelude.{◌≡◌, ℕ, List, Option, Result, Ok, Err}
use Rattle.uz_shelf.specs.Files.{FileMap, HoldsFile}
use Rattle.uz_hex.specs.Reading.{Flash}
use Rattle.uz_schedule.specs.declared.kinds.Response.{Response}
use Rattle.uz_schedule.specs.declared.certificate.Cert.{Cert}
use Rattle.uz_check.specs.Acceptance.{Accepts}
use Rattle.uz_check.specs.Certified.{Certified}
use Rattle.uz_search.specs.declared.found.NotFound.{NotFound}
use Rattle.uz_paths.specs.Finding.{IsAsked}
use Rattle.uz_files.specs.declared.status.Status.TheVariants.{Refused}
use Rattle.uz_files.specs.Answers.{Answer, one_line}
use Rattle.uz_files.specs.Formats.{SpellsCertificate}
use Rattle.uz_files.specs.Writing.{written_then}
use Rattle.uz_certificate_commands.specs.SearchLines.{not_found_line}
use Rattle.uz_certificate_commands.specs.VerdictLines.{accepted_line}
use Rattle.uz_certificate_commands.specs.CertifyCommand.{cert_file}
use Rattle.uz_certificate_commands.specs.HintedSearch.{HintSource, IsSought, IsSoughtBy, ReadsHinted, SpellsHinted}

-- the certificate is written, and then one line is printed; or one line tells why none is found
abbrev pub find_answer : List ℕ → Result Cert NotFound → Answer
find_answer name (Ok cert) = written_then (cert_file name cert) (accepted_line cert)
find_answer name (Err e) = one_line Refused (not_found_line e)

abbrev pub FindTells : List ℕ → Flash → HintSource → Result Cert NotFound → Answer → Type 0
FindTells name image source found answer = answer ≡ find_answer name found

abbrev pub FindAnswers : Option FileMap → Type 0 → List ℕ → List ℕ → Response → List ℕ → Answer → Type 0
FindAnswers files load_fault hex hints irq name =
    ReadsHinted files load_fault hex hints (IsSought (FindTells name) irq)

-- files and printed bytes are a function of both files and of what the search answers
abbrev pub FindAnswersBy : Option FileMap → List ℕ → List ℕ → List ℕ → Result Cert NotFound → Answer → Type 0
FindAnswersBy files hex hints name found = ReadsHinted files ⊥ hex hints (IsSoughtBy (FindTells name) found)

-- What a `find` that is done is worth: HEX spells an image, HINTS a source whose bytes are in it, and CERT holds the text of a
-- certificate with what the hints ask for; image and certificate are accepted, and from every state that meets the certificate's entry
-- condition, for every list of pads and every number of clocks, the machine with that image keeps to the certificate's schedule
pub record FilesFound (old new : Option FileMap) (hex hints : List ℕ) (irq : Response) (name : List ℕ) : Type 0 where
  pub image : Flash
  pub source : HintSource
  pub spelled : SpellsHinted old hex hints image source
  pub certificate : Cert
  pub asked : IsAsked image irq source.output.hints certificate
  pub certificate_text : List ℕ
  pub holds_certificate : HoldsFile new name certificate_text
  pub is_certificate : SpellsCertificate certificate_text certificate
  pub accepted : Accepts image certificate
  pub certified : Certified image certificate
