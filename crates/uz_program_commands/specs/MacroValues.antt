-- The values of the code that expand and build sources.
use Rattle.std.specs.Prelude.{◌≡◌, ◌≢◌, ℕ, List, Option}
use Rattle.uz_shelf.specs.Files.{FileMap}
use Rattle.uz_hex.specs.HexText.{IsHexOf}
use Rattle.avr_asm.specs.Assembly.{Output}
use Rattle.avr_asm.specs.Relation.{IsAssembly}
use Rattle.avr_asm.specs.declared.errors.AsmError.{AsmError}
use Rattle.avr_text.specs.declared.errors.AsmWhy.TheVariants.{Memory}
use Rattle.avr_macro.specs.declared.origin.Origin.{Origin}
use Rattle.avr_macro.specs.Expansion.{Expands, FlatText}
use Rattle.uz_files.specs.declared.work.Work.{Work}
use Rattle.uz_files.specs.Answers.{Answer}
use Rattle.uz_files.specs.Writing.{answer_of_work}
use Rattle.uz_program_commands.specs.MacroCommands.{origin_of}
use Rattle.uz_program_commands.specs.MacroSource.{bad_at, flat_of}
use Rattle.avr_text.specs.WhyNames.{asm_why_name}

-- what is to be written and printed of an expanded source
pub record IsMacroWork (files : Option FileMap) (source name : List ℕ) (next : List (List ℕ) → FlatText → Answer → Type 0)
    (work : Work) : Type 0 where
  pub names : List (List ℕ)
  pub flat : FlatText
  pub expands : Expands files source (flat_of names flat)
  pub written : next names flat (answer_of_work name work)

-- the answer tells the assembler's fault at the origin of its flat line
abbrev pub TellsAt : List (List ℕ) → List Origin → AsmError → Answer → Type 0
TellsAt names origins error answer = (error.why ≢ Memory) × (answer ≡ bad_at names (origin_of origins error.line) (asm_why_name error.why))

-- what is to be written is Intel HEX of the image that the flat text of a source assembles to
pub record IsImageWork (files : Option FileMap) (source : List ℕ) (work : Work) : Type 0 where
  pub names : List (List ℕ)
  pub flat : FlatText
  pub expands : Expands files source (flat_of names flat)
  pub output : Output
  pub assembles : IsAssembly flat.text output
  pub reads_back : IsHexOf work.text.items output.image
