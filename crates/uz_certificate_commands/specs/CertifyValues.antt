-- The values of the code that make a certificate.
use Rattle.std.specs.Prelude.{◌≡◌, ℕ, List, [], ◌∷◌, Option, Ok, Err}
use Rattle.uz_shelf.specs.Files.{FileMap}
use Rattle.uz_hex.specs.Reading.{Flash}
use Rattle.uz_hex.specs.HexText.{IsHexOf}
use Rattle.uz_hex.specs.Writing.{hex_text}
use Rattle.avr_asm.specs.Assembly.{Output}
use Rattle.avr_asm.specs.declared.output.Hint.{Hint as SourceHint}
use Rattle.uz_schedule.specs.declared.kinds.Response.{Response}
use Rattle.uz_schedule.specs.declared.certificate.Cert.{Cert}
use Rattle.uz_cert.specs.Texts.{own_text}
use Rattle.uz_search.specs.declared.found.NotFound.{NotFound}
use Rattle.uz_certificate_commands.specs.declared.certify_command.Found.{Found}
use Rattle.uz_certificate_commands.specs.declared.certify_command.Found.TheVariants.{Pair, Refusal}
use Rattle.uz_files.specs.Answers.{Write}
use Rattle.uz_certificate_commands.specs.SearchLines.{Allowed, not_found_line}
use Rattle.uz_certificate_commands.specs.VerdictLines.{accepted_line}
use Rattle.uz_files.specs.Reading.{Says, text_limit}
use Rattle.avr_asm.specs.Relation.{IsAssembly}

-- HEX, and then CERT
abbrev pub both_files : List ℕ → List ℕ → List ℕ → List ℕ → List Write
both_files hex image name text = record { name = hex; bytes = image } ∷ record { name = name; bytes = text } ∷ []

-- what is to be written and printed of a certificate
abbrev pub IsPairOf : Flash → Cert → Found → Type 0
IsPairOf image cert (Pair hex text line) = (hex.items ≡ hex_text image) × IsHexOf hex.items image × (text.items ≡ own_text cert)
    × (line.items ≡ accepted_line cert)
IsPairOf image cert (Refusal line) = ⊥

-- what is to be written and printed of an answer of the search
pub record IsPair (image : Flash) (irq : Response) (hints : List SourceHint) (hex text line : List ℕ) : Type 0 where
  pub cert : Cert
  pub allowed : Allowed image irq hints (Ok cert)
  pub is_hex : hex ≡ hex_text image
  pub reads_back : IsHexOf hex image
  pub is_text : text ≡ own_text cert
  pub is_line : line ≡ accepted_line cert

pub record IsRefusal (image : Flash) (irq : Response) (hints : List SourceHint) (line : List ℕ) : Type 0 where
  pub why : NotFound
  pub allowed : Allowed image irq hints (Err why)
  pub is_line : line ≡ not_found_line why

abbrev pub IsFound : Flash → Response → List SourceHint → Found → Type 0
IsFound image irq hints (Pair hex text line) = IsPair image irq hints hex.items text.items line.items
IsFound image irq hints (Refusal line) = IsRefusal image irq hints line.items

-- of the source in this file
pub record IsFoundIn (files : Option FileMap) (source : List ℕ) (irq : Response) (found : Found) : Type 0 where
  pub output : Output
  pub spelled : Says files source text_limit IsAssembly output
  pub is : IsFound output.image irq output.hints found
