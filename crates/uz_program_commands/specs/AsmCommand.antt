-- `asm SRC HEX`: the source is read and assembled, the HEX text of its image is written, and then a line tells how many
-- bytes are present.
use Rattle.std.specs.Prelude.{◌≡◌, ℕ, List, ◌++◌, codes, decimal, Option}
use Rattle.std.specs.FinMap.{len}
use Rattle.uz_shelf.specs.Files.{FileMap, HoldsFile}
use Rattle.uz_hex.specs.HexText.{IsHexOf}
use Rattle.uz_hex.specs.Reading.{Flash}
use Rattle.avr_asm.specs.Assembly.{Output}
use Rattle.uz_files.specs.Answers.{Answer}
use Rattle.uz_files.specs.Writing.{hex_file, written_then}
use Rattle.uz_files.specs.Reading.{Reads, Says, text_limit}
use Rattle.avr_asm.specs.Relation.{IsAssembly}
use Rattle.uz_files.specs.Formats.{RefusesSource}

abbrev pub assembled_line : Flash → List ℕ
assembled_line image = codes "assembled bytes " ++ decimal (len image) ++ codes "\n"

-- once the source is read
abbrev pub IsAssembled : List ℕ → Output → Answer → Type 0
IsAssembled hex output answer = answer ≡ written_then (hex_file hex output.image) (assembled_line output.image)

abbrev pub AsmAnswers : Option FileMap → Type 0 → List ℕ → List ℕ → Answer → Type 0
AsmAnswers files load_fault source hex = Reads files load_fault source text_limit IsAssembly RefusesSource (IsAssembled hex)

-- the source is within its limit, and it has an assembly
pub record AsmSucceeds (files : Option FileMap) (source : List ℕ) : Type 0 where
  pub output : Output
  pub spelled : Says files source text_limit IsAssembly output

-- What an `asm` that is done is worth: the source is assembled, and HEX holds Intel HEX of its image
pub record FilesAssembled (old new : Option FileMap) (source hex : List ℕ) : Type 0 where
  pub output : Output
  pub spelled : Says old source text_limit IsAssembly output
  pub text : List ℕ
  pub holds : HoldsFile new hex text
  pub is_hex : IsHexOf text output.image
