-- `certify SRC IRQ HEX CERT`: the source is read and assembled, a certificate is searched by its hints, the HEX text of the image and then
-- the certificate are written, and a line tells the lines and clocks of the frame. What the search answers is taken as it comes: no
-- definition
-- computes it, but it comes only as its promise allows.
use Rattle.std.specs.Prelude.{◌≡◌, ℕ, List, [], ◌∷◌, Option}
use Rattle.std.specs.Prelude.{Result, Ok, Err}
use Rattle.uz_shelf.specs.Files.{FileMap, HoldsFile}
use Rattle.uz_hex.specs.HexText.{IsHexOf}
use Rattle.uz_files.specs.Formats.{SpellsCertificate}
use Rattle.uz_hex.specs.Reading.{Flash}
use Rattle.avr_asm.specs.Assembly.{Output}
use Rattle.uz_schedule.specs.declared.kinds.Response.{Response}
use Rattle.uz_schedule.specs.declared.kinds.RuleVersion.TheVariants.{Two}
use Rattle.uz_schedule.specs.declared.certificate.Cert.{Cert}
use Rattle.uz_cert.specs.Texts.{own_text}
use Rattle.uz_check.specs.Acceptance.{Accepts}
use Rattle.uz_check.specs.Certified.{Certified}
use Rattle.uz_search.specs.declared.found.NotFound.{NotFound}
use Rattle.uz_paths.specs.Finding.{NoCause, IsAsked}
use Rattle.uz_files.specs.declared.status.Status.TheVariants.{Done, Refused}
use Rattle.uz_files.specs.Answers.{Answer, Write, one_line}
use Rattle.uz_files.specs.Writing.{hex_file}
use Rattle.uz_certificate_commands.specs.VerdictLines.{accepted_line}
use Rattle.uz_files.specs.Reading.{Reads, Says, text_limit}
use Rattle.avr_asm.specs.Relation.{IsAssembly}
use Rattle.uz_files.specs.Formats.{RefusesSource}
use Rattle.uz_certificate_commands.specs.SearchLines.{not_found_line, Allowed}

-- Answers

abbrev pub cert_file : List ℕ → Cert → Write
cert_file name cert = record { name = name; bytes = own_text cert }

-- both files are written, HEX before CERT, and then one line is printed; or one line tells why no certificate is found
abbrev pub certify_answer : List ℕ → List ℕ → Flash → Result Cert NotFound → Answer
certify_answer hex name image (Ok cert) = record {
  writes = hex_file hex image ∷ cert_file name cert ∷ [];
  printed = [];
  status = Done;
  line = accepted_line cert;
}
certify_answer hex name image (Err e) = one_line Refused (not_found_line e)

-- once the source is read
abbrev pub IsCertified : Response → List ℕ → List ℕ → Output → Answer → Type 0
IsCertified irq hex name output answer =
    (found : Result Cert NotFound) × Allowed output.image irq output.hints found × (answer ≡ certify_answer hex name output.image found)

abbrev pub CertifyAnswers : Option FileMap → Type 0 → List ℕ → Response → List ℕ → List ℕ → Answer → Type 0
CertifyAnswers files load_fault source irq hex name = Reads files load_fault source text_limit IsAssembly RefusesSource
    (IsCertified irq hex name)

-- The same with the search's answer as data: files and printed bytes are a function of the source and of what the search answers

abbrev pub IsCertifiedBy : List ℕ → List ℕ → Result Cert NotFound → Output → Answer → Type 0
IsCertifiedBy hex name found output answer = answer ≡ certify_answer hex name output.image found

abbrev pub CertifyAnswersBy : Option FileMap → List ℕ → List ℕ → List ℕ → Result Cert NotFound → Answer → Type 0
CertifyAnswersBy files source hex name found = Reads files ⊥ source text_limit IsAssembly RefusesSource
    (IsCertifiedBy hex name found)

-- where the source is read, this is what the search's promise allows of it
abbrev pub AllowedOf : Option FileMap → List ℕ → Response → Result Cert NotFound → Type 0
AllowedOf files source irq found = (output : Output) → Says files source text_limit IsAssembly output → Allowed output.image irq
    output.hints found

-- What a `certify` that is done is worth. The source is assembled; HEX holds Intel HEX of its image, and CERT the text of a certificate
-- with
-- what the hints ask for; the pair is accepted, and from every state that meets the certificate's entry condition, for every list of pads
-- and
-- every number of clocks, the machine with that image keeps to the certificate's schedule
pub record FilesCertify (old new : Option FileMap) (source : List ℕ) (irq : Response) (hex cert : List ℕ) : Type 0 where
  pub output : Output
  pub spelled : Says old source text_limit IsAssembly output
  pub certificate : Cert
  pub asked : IsAsked output.image irq output.hints certificate
  pub image_text : List ℕ
  pub holds_image : HoldsFile new hex image_text
  pub is_hex : IsHexOf image_text output.image
  pub certificate_text : List ℕ
  pub holds_certificate : HoldsFile new cert certificate_text
  pub is_certificate : SpellsCertificate certificate_text certificate
  pub accepted : Accepts output.image certificate
  pub certified : Certified output.image certificate

-- the source is within its limit, it has an assembly, and the cause of no refusal by the rules of version 2 stands
pub record CertifySucceeds (files : Option FileMap) (source : List ℕ) (irq : Response) : Type 0 where
  pub output : Output
  pub spelled : Says files source text_limit IsAssembly output
  pub free : NoCause Two output.image irq output.hints
