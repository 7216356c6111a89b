-- The values of the code that read an image and hints beside it.
use Rattle.std.specs.Prelude.{ℕ, List, Option}
use Rattle.uz_shelf.specs.Files.{FileMap}
use Rattle.uz_hex.specs.Reading.{Flash}
use Rattle.avr_asm.specs.Assembly.{seen_built}
use Rattle.avr_macro.specs.Answers.{names_of}
use Rattle.avr_macro.specs.Expansion.{FlatText}
use Rattle.avr_macro.specs.declared.flat.Flat.{Flat}
use Rattle.uz_files.specs.Answers.{Answer}
use Rattle.uz_program_commands.specs.MacroSource.{ReadsFlat}
use Rattle.uz_certificate_commands.specs.HintedSearch.{HintSource, IsHinted, ReadsHinted, source_of}
use Rattle.uz_certificate_commands.specs.declared.hinted.HintsRead.{HintsRead}

-- a flat text as the program keeps it
abbrev pub text_of : Flat → FlatText
text_of flat = record { text = flat.text.items; origins = flat.origins.items }

-- the source of hints as the program keeps it
abbrev pub hints_seen : HintsRead → HintSource
hints_seen read = source_of (names_of read.source.names) (text_of read.source.flat) (seen_built read.built)

-- the hints' source ends the command, or one of both files does: no search is made
abbrev pub NoSearch : Flash → HintSource → Answer → Type 0
NoSearch image source answer = ⊥

abbrev pub HintsFail : Option FileMap → Type 0 → List ℕ → Flash → Answer → Type 0
HintsFail files load_fault hints image = ReadsFlat files load_fault hints (IsHinted image (NoSearch image))

abbrev pub HintedFails : Option FileMap → Type 0 → List ℕ → List ℕ → Answer → Type 0
HintedFails files load_fault hex hints = ReadsHinted files load_fault hex hints NoSearch
