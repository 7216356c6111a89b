-- `find` and `certify` of one source.
use Rattle.std.specs.Prelude.{◌≡◌, ◌⊎◌, ℕ, List, [], ◌∷◌}
use Rattle.uz_shelf.specs.Files.{FileMap}
use Rattle.std.specs.Prelude.{Option}
use Rattle.uz_hex.specs.HexText.{IsHexOf}
use Rattle.avr_asm.specs.Assembly.{Output}
use Rattle.avr_asm.specs.Relation.{IsAssembly}
use Rattle.avr_macro.specs.Expansion.{Expands, FlatText}
use Rattle.uz_files.specs.Answers.{Answer, Write}
use Rattle.uz_files.specs.Reading.{Says, text_limit}
use Rattle.uz_program_commands.specs.MacroSource.{flat_of}

-- the source is read by the assembler as it stands, as its flat text is, and the other file is Intel HEX of its image
pub record IsFlatWith (files : Option FileMap) (hex source : List ℕ) (output : Output) : Type 0 where
  pub spelled : Says files source text_limit IsAssembly output
  pub names : List (List ℕ)
  pub flat : FlatText
  pub expands : Expands files source (flat_of names flat)
  pub assembles : IsAssembly flat.text output
  pub image : Says files hex text_limit IsHexOf output.image

-- the same status and printed text; and where the first answer creates files, it creates this one and then those of the second
abbrev pub AreAlike : Write → Answer → Answer → Type 0
AreAlike file first second =
    (second.status ≡ first.status) × (second.printed ≡ first.printed) × (second.line ≡ first.line)
    × (((first.writes ≡ []) × (second.writes ≡ [])) ⊎ (first.writes ≡ file ∷ second.writes))
