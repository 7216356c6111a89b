-- A search by hints beside an image, as `find` and `why` make it: the image is read, and the source of the hints is expanded and assembled.
-- Each byte that the source puts out has to be in the image with that value; else the first of its lines that places another byte is told,
-- at its origin. Then a certificate of the image is searched by the hints as by `certify`, by the rules of either version.
use Rattle.std.specs.Prelude.{◌≡◌, ◌≢◌, ℕ, ◌==◌, ◌⊎◌, List, codes, Option, Some, None, Result, Ok, Err, if◌then◌else◌}
use Rattle.std.specs.FinMap.{empty, get}
use Rattle.uz_shelf.specs.Files.{FileMap, LacksFile}
use Rattle.uz_hex.specs.HexText.{IsHexOf}
use Rattle.uz_hex.specs.Reading.{Flash}
use Rattle.avr_asm.specs.Assembly.{Output}
use Rattle.avr_asm.specs.Relation.{IsAssembly}
use Rattle.avr_asm.specs.Taken.{assembly_over}
use Rattle.avr_asm.specs.declared.errors.AsmError.{AsmError}
use Rattle.avr_macro.specs.Expansion.{Expands, FlatText}
use Rattle.uz_schedule.specs.declared.kinds.Response.{Response}
use Rattle.uz_schedule.specs.declared.kinds.RuleVersion.TheVariants.{Two}
use Rattle.uz_schedule.specs.declared.certificate.Cert.{Cert}
use Rattle.uz_search.specs.declared.found.NotFound.{NotFound}
use Rattle.uz_paths.specs.Finding.{NoCause}
use Rattle.uz_files.specs.Answers.{Answer}
use Rattle.uz_files.specs.Formats.{RefusesHex}
use Rattle.uz_files.specs.Reading.{Reads, Says, text_limit}
use Rattle.uz_certificate_commands.specs.SearchLines.{Allowed}
use Rattle.uz_program_commands.specs.MacroCommands.{IsUnbuilt, origin_of}
use Rattle.uz_program_commands.specs.MacroSource.{MacroLacks, ReadsFlat, bad_at, flat_of}

-- Bytes of a source that an image hasn't

-- each byte is in the image with that value
abbrev pub IsWithin : Flash → Flash → Type 0
IsWithin placed image = (at byte : ℕ) → get placed at ≡ Some byte → get image at ≡ Some byte

-- a byte, unless the other one is the same
abbrev pub unless_same : Option ℕ → Option ℕ → Option ℕ
unless_same None other = None
unless_same (Some byte) None = Some byte
unless_same (Some byte) (Some other) = if byte == other then None else Some byte

-- the bytes that the image lacks or has with another value
abbrev pub AreOdd : Flash → Flash → Flash → Type 0
AreOdd placed image odd = (at : ℕ) → get odd at ≡ unless_same (get placed at) (get image at)

-- the line that is refused where the cells of the odd bytes are taken already: the first that places one of them
abbrev pub refused_line : Result Output AsmError → ℕ
refused_line (Ok output) = 0
refused_line (Err fault) = fault.line

abbrev pub first_odd_line : Flash → List ℕ → ℕ
first_odd_line odd text = refused_line (assembly_over odd text)

-- Answers

-- the source of hints: the names of its files, its flat text, and what that assembles to
pub record HintSource : Type 0 where
  pub names : List (List ℕ)
  pub flat : FlatText
  pub output : Output

abbrev pub source_of : List (List ℕ) → FlatText → Output → HintSource
source_of names flat output = record { names = names; flat = flat; output = output }

-- how a command tells what a search of an image by hints finds
abbrev pub Telling : Type 1
Telling = Flash → HintSource → Result Cert NotFound → Answer → Type 0

-- an image is searched by hints, and what is found is told
abbrev pub IsSought : Telling → Response → Flash → HintSource → Answer → Type 0
IsSought tells irq image source answer =
    (found : Result Cert NotFound) × Allowed image irq source.output.hints found × tells image source found answer

-- the same with the search's answer as data
abbrev pub IsSoughtBy : Telling → Result Cert NotFound → Flash → HintSource → Answer → Type 0
IsSoughtBy tells found image source answer = tells image source found answer

-- the source's bytes aren't all in the image: the first odd line is told
pub record IsMisfit (image : Flash) (names : List (List ℕ)) (flat : FlatText) (output : Output) (answer : Answer) : Type 0 where
  pub odd : Flash
  pub are : AreOdd output.image image odd
  pub some : odd ≢ empty
  pub told : answer ≡ bad_at names (origin_of flat.origins (first_odd_line odd flat.text)) (codes "Image")

-- once the source is expanded: its flat text has a first fault, or it is assembled, and its bytes are in the image or not
abbrev pub IsHinted : Flash → (HintSource → Answer → Type 0) → List (List ℕ) → FlatText → Answer → Type 0
IsHinted image next names flat answer =
    ((output : Output) × IsAssembly flat.text output
    × ((IsWithin output.image image × next (source_of names flat output) answer) ⊎ IsMisfit image names flat output answer))
    ⊎ IsUnbuilt names flat.origins flat.text answer

-- once the image is read
abbrev pub ReadsHints : Option FileMap → Type 0 → List ℕ → (Flash → HintSource → Answer → Type 0) → Flash → Answer → Type 0
ReadsHints files load_fault hints next image = ReadsFlat files load_fault hints (IsHinted image (next image))

abbrev pub ReadsHinted : Option FileMap → Type 0 → List ℕ → List ℕ → (Flash → HintSource → Answer → Type 0) → Answer → Type 0
ReadsHinted files load_fault hex hints next =
    Reads files load_fault hex text_limit IsHexOf RefusesHex (ReadsHints files load_fault hints next)

-- the source comes to a flat text that is assembled, and its bytes are in the image
pub record Fits (files : Option FileMap) (hints : List ℕ) (image : Flash) (source : HintSource) : Type 0 where
  pub expands : Expands files hints (flat_of source.names source.flat)
  pub assembles : IsAssembly source.flat.text source.output
  pub within : IsWithin source.output.image image

-- the files spell an image, and hints whose bytes are in it
pub record SpellsHinted (files : Option FileMap) (hex hints : List ℕ) (image : Flash) (source : HintSource) : Type 0 where
  pub spelled_image : Says files hex text_limit IsHexOf image
  pub fits : Fits files hints image source

-- where both are read and fit, this is what the search's promise allows of them
abbrev pub AllowedOfHinted : Option FileMap → List ℕ → List ℕ → Response → Result Cert NotFound → Type 0
AllowedOfHinted files hex hints irq found =
    (image : Flash) (source : HintSource) → SpellsHinted files hex hints image source → Allowed image irq source.output.hints found

-- a file that is asked for isn't there, and all earlier ones are read
abbrev pub HintedLacks : Option FileMap → List ℕ → List ℕ → Type 0
HintedLacks files hex hints = LacksFile files hex ⊎ ((image : Flash) × Says files hex text_limit IsHexOf image × MacroLacks files hints)

-- both files are read and fit, and the cause of no refusal by the rules of version 2 stands
pub record HintedSucceeds (files : Option FileMap) (hex hints : List ℕ) (irq : Response) : Type 0 where
  pub image : Flash
  pub source : HintSource
  pub spelled : SpellsHinted files hex hints image source
  pub free : NoCause Two image irq source.output.hints
