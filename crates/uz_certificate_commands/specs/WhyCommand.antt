-- `why HEX HINTS IRQ`: a certificate of the image is searched by the hints as by `find`. Of one that is found the line of `find` is printed,
-- and no file is written; else the line of `find` tells why none is found, and behind it stands the way there.
use Rattle.std.specs.Prelude.{◌≡◌, ℕ, List, [], ◌++◌, Option, Result, Ok, Err}
use Rattle.uz_shelf.specs.Files.{FileMap}
use Rattle.uz_hex.specs.Reading.{Flash}
use Rattle.uz_schedule.specs.declared.kinds.Response.{Response}
use Rattle.uz_schedule.specs.declared.certificate.Cert.{Cert}
use Rattle.uz_check.specs.Acceptance.{Accepts}
use Rattle.uz_check.specs.Certified.{Certified}
use Rattle.uz_search.specs.declared.found.NotFound.{NotFound}
use Rattle.uz_search.specs.declared.found.NotFound.TheVariants.{Hint}
use Rattle.uz_paths.specs.Finding.{IsAsked}
use Rattle.uz_files.specs.declared.status.Status.TheVariants.{Done, Refused}
use Rattle.uz_files.specs.Answers.{Answer, one_line}
use Rattle.uz_certificate_commands.specs.SearchLines.{not_found_line}
use Rattle.uz_certificate_commands.specs.VerdictLines.{accepted_line}
use Rattle.avr_asm.specs.SourceMap.{labels_of}
use Rattle.uz_paths.specs.Rules.{IsRuleAt}
use Rattle.uz_paths.specs.declared.rules.Rule.{Rule}
use Rattle.uz_explanations.specs.Explanations.{explanation}
use Rattle.uz_explanations.specs.Readings.{IsReading, Reading}
use Rattle.uz_certificate_commands.specs.HintLines.{hint_text}
use Rattle.uz_certificate_commands.specs.HintedSearch.{HintSource, IsSought, IsSoughtBy, ReadsHinted, SpellsHinted}

-- of a hint at fault or a missing one, where it stands and the rule that is broken
abbrev pub IsHintPart : Flash → Response → HintSource → NotFound → List ℕ → Type 0
IsHintPart image irq source (Hint index) text =
    (rule : Rule) × IsRuleAt image irq source.output.hints index rule × (text ≡ hint_text source index rule)
IsHintPart image irq source other text = text ≡ []

-- the way to a refusal, by the reading of the flash
abbrev pub IsWay : Flash → HintSource → NotFound → List ℕ → Type 0
IsWay image source e text =
    (read : Reading) × IsReading image read × (text ≡ explanation image read (labels_of source.flat.text) e)

-- a flash has one reading
abbrev pub OneReading : Type 0
OneReading = (image : Flash) (read other : Reading) (pc : ℕ) → IsReading image read → IsReading image other → read pc ≡ other pc

-- no certificate is found: the line that says why, the way there, and what is told of a hint
pub record TellsRefusal (irq : Response) (image : Flash) (source : HintSource) (e : NotFound) (answer : Answer) : Type 0 where
  pub way : List ℕ
  pub is_way : IsWay image source e way
  pub hint : List ℕ
  pub is_hint : IsHintPart image irq source e hint
  pub told : answer ≡ one_line Refused (not_found_line e ++ way ++ hint)

abbrev pub WhyTells : Response → Flash → HintSource → Result Cert NotFound → Answer → Type 0
WhyTells irq image source (Ok cert) answer = answer ≡ one_line Done (accepted_line cert)
WhyTells irq image source (Err e) answer = TellsRefusal irq image source e answer

abbrev pub WhyAnswers : Option FileMap → Type 0 → List ℕ → List ℕ → Response → Answer → Type 0
WhyAnswers files load_fault hex hints irq = ReadsHinted files load_fault hex hints (IsSought (WhyTells irq) irq)

-- printed bytes are a function of both files and of what the search answers
abbrev pub WhyAnswersBy : Option FileMap → List ℕ → List ℕ → Response → Result Cert NotFound → Answer → Type 0
WhyAnswersBy files hex hints irq found = ReadsHinted files ⊥ hex hints (IsSoughtBy (WhyTells irq) found)

-- What a `why` that is done is worth: HEX spells an image, HINTS a source whose bytes are in it, and there is a certificate with what the
-- hints ask for; image and certificate are accepted, and from every state that meets the certificate's entry condition, for every list of
-- pads and every number of clocks, the machine with that image keeps to the certificate's schedule
pub record HintsLead (files : Option FileMap) (hex hints : List ℕ) (irq : Response) : Type 0 where
  pub image : Flash
  pub source : HintSource
  pub spelled : SpellsHinted files hex hints image source
  pub certificate : Cert
  pub asked : IsAsked image irq source.output.hints certificate
  pub accepted : Accepts image certificate
  pub certified : Certified image certificate
