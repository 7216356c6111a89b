-- The values of the code that make an assembly.
use Rattle.std.specs.Prelude.{◌≡◌, ℕ, List, Option}
use Rattle.uz_shelf.specs.Files.{FileMap}
use Rattle.uz_hex.specs.HexText.{IsHexOf}
use Rattle.uz_hex.specs.Writing.{hex_text}
use Rattle.avr_asm.specs.Assembly.{Output}
use Rattle.uz_files.specs.declared.work.Work.{Work}
use Rattle.uz_files.specs.Reading.{Says, text_limit}
use Rattle.uz_program_commands.specs.AsmCommand.{assembled_line}
use Rattle.avr_asm.specs.Relation.{IsAssembly}

-- what is to be written and printed of the source
pub record IsWork (files : Option FileMap) (source : List ℕ) (work : Work) : Type 0 where
  pub output : Output
  pub spelled : Says files source text_limit IsAssembly output
  pub text : work.text.items ≡ hex_text output.image
  pub reads_back : IsHexOf work.text.items output.image
  pub line : work.line.items ≡ assembled_line output.image
