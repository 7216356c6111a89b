-- What is told of a hint at fault, or of a missing one.
use Rattle.std.specs.Prelude.{ℕ, ◌-◌, ◌==◌, List, ◌++◌, codes, decimal, slice_get, Option, Some, None}
use Rattle.std.specs.List.{slice_split}
use Prim.Native.Char.{code}
use Rattle.uz_hex.specs.Lines.{line_at}
use Rattle.uz_program_commands.specs.MacroCommands.{origin_of}
use Rattle.uz_program_commands.specs.MacroSource.{name_at}
use Rattle.avr_asm.specs.SourceMap.{hint_lines_of}
use Rattle.uz_paths.specs.Rules.{words_of}
use Rattle.uz_paths.specs.declared.rules.Rule.{Rule}
use Rattle.uz_certificate_commands.specs.HintedSearch.{HintSource}

-- the line of a text by its number, counted from 1, without its end
abbrev pub line_of : List ℕ → ℕ → List ℕ
line_of text line = line_at (slice_split (λ byte. byte == code "\n") text) (line - 1)

-- where a flat line comes from, and its text: `hint FILE line N: TEXT`
unfoldable pub place_line : HintSource → ℕ → List ℕ
place_line source line =
    codes "hint " ++ name_at source.names (origin_of source.flat.origins line).file ++ codes " line "
    ++ decimal (origin_of source.flat.origins line).line ++ codes ": " ++ line_of source.flat.text line ++ codes "\n"

-- the place of the hint at fault, by its flat line, and the rule that it breaks; or which one is missing
abbrev pub missing_line : Rule → List ℕ
missing_line rule = codes "hint missing: " ++ words_of rule ++ codes "\n"

abbrev pub broken_lines : HintSource → ℕ → Rule → List ℕ
broken_lines source line rule = place_line source line ++ codes "hint breaks: " ++ words_of rule ++ codes "\n"

abbrev pub fault_text : HintSource → Option ℕ → Rule → List ℕ
fault_text source None rule = missing_line rule
fault_text source (Some line) rule = broken_lines source line rule

-- the hint of an index, counted from 0; the one behind the last is the missing one
abbrev pub hint_text : HintSource → ℕ → Rule → List ℕ
hint_text source index rule = fault_text source (slice_get (hint_lines_of source.flat.text) index) rule
