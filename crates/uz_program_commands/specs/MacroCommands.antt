-- `expand SRC FLAT`: the flat text is written, and then a line tells how many lines it has. `build SRC HEX`: the flat text
-- is assembled, and written and told as by `asm`; a refusal of the assembler is told at the origin of its flat line.
use Rattle.std.specs.Prelude.{◌≡◌, ℕ, ◌-◌, ◌⊎◌, List, ◌++◌, codes, decimal, length, slice_index_or, Option}
use Rattle.uz_shelf.specs.Files.{FileMap, HoldsFile}
use Rattle.uz_hex.specs.HexText.{IsHexOf}
use Rattle.avr_asm.specs.Assembly.{Output}
use Rattle.avr_asm.specs.FirstFault.{IsFirstFault}
use Rattle.avr_asm.specs.Relation.{IsAssembly}
use Rattle.avr_text.specs.declared.errors.AsmWhy.{AsmWhy}
use Rattle.avr_macro.specs.declared.origin.Origin.{Origin}
use Rattle.avr_macro.specs.Expansion.{Expands, FlatText, first_place}
use Rattle.uz_files.specs.Answers.{Answer}
use Rattle.uz_program_commands.specs.AsmCommand.{assembled_line}
use Rattle.uz_files.specs.Writing.{hex_file, written_then}
use Rattle.uz_program_commands.specs.MacroSource.{ReadsFlat, bad_at, flat_of}
use Rattle.avr_text.specs.WhyNames.{asm_why_name}

abbrev pub expanded_line : List Origin → List ℕ
expanded_line origins = codes "expanded lines " ++ decimal (length origins) ++ codes "\n"

-- once the source is expanded
abbrev pub IsExpanded : List ℕ → List (List ℕ) → FlatText → Answer → Type 0
IsExpanded file names flat answer = answer ≡ written_then (record { name = file; bytes = flat.text }) (expanded_line flat.origins)

abbrev pub ExpandAnswers : Option FileMap → Type 0 → List ℕ → List ℕ → Answer → Type 0
ExpandAnswers files load_fault source file = ReadsFlat files load_fault source (IsExpanded file)

-- the origin of a flat line
abbrev pub origin_of : List Origin → ℕ → Origin
origin_of origins line = slice_index_or origins (line - 1) first_place

-- the flat text has a first fault, and it is told
abbrev pub IsUnbuilt : List (List ℕ) → List Origin → List ℕ → Answer → Type 0
IsUnbuilt names origins text answer =
    (line : ℕ) × (why : AsmWhy) × IsFirstFault text line why × (answer ≡ bad_at names (origin_of origins line) (asm_why_name why))

-- once the source is expanded: the flat text has an assembly, or a first fault
abbrev pub IsBuilt : List ℕ → List (List ℕ) → FlatText → Answer → Type 0
IsBuilt hex names flat answer =
    ((output : Output) × IsAssembly flat.text output × (answer ≡ written_then (hex_file hex output.image) (assembled_line output.image)))
    ⊎ IsUnbuilt names flat.origins flat.text answer

abbrev pub BuildAnswers : Option FileMap → Type 0 → List ℕ → List ℕ → Answer → Type 0
BuildAnswers files load_fault source hex = ReadsFlat files load_fault source (IsBuilt hex)

-- the source comes to a flat text, and for `build` that has an assembly
pub record ExpandSucceeds (files : Option FileMap) (source : List ℕ) : Type 0 where
  pub names : List (List ℕ)
  pub flat : FlatText
  pub expands : Expands files source (flat_of names flat)

pub record BuildSucceeds (files : Option FileMap) (source : List ℕ) : Type 0 where
  pub names : List (List ℕ)
  pub flat : FlatText
  pub expands : Expands files source (flat_of names flat)
  pub output : Output
  pub assembles : IsAssembly flat.text output

-- What a `build` that is done is worth: the source comes to a flat text, that is assembled, and HEX holds Intel HEX of its image
pub record FilesBuilt (old new : Option FileMap) (source hex : List ℕ) : Type 0 where
  pub names : List (List ℕ)
  pub flat : FlatText
  pub expands : Expands old source (flat_of names flat)
  pub output : Output
  pub assembles : IsAssembly flat.text output
  pub text : List ℕ
  pub holds : HoldsFile new hex text
  pub is_hex : IsHexOf text output.image
