use Rattle.std.proofs.Common.{List, Global, map, subst}
use Rattle.std.specs.Prelude.{string_bytes}
use Rattle.std.specs.declared.string.String.{String}
use Rattle.uz_shelf.specs.Faults.{Rose}
use Rattle.avr_macro.specs.Answers.{names_of}
use Rattle.uz_files.specs.Endings.{EndsBy}
use Rattle.uz_program_commands.specs.MacroSource.{TellsRefusal}
use Rattle.uz_program_commands.proofs.MacroLemmas.{source_refused}
use Rattle.uz_program_commands.proofs.macro_source.expand_file.Goals as goal

pub returns-in-Ok-refusal_of-clause-fails : goal.returns-in-Ok-refusal_of-clause-fails
returns-in-Ok-refusal_of-clause-fails g c =
    source_refused (g.H.Shelf.files c.args.shelf.now) (Rose (g.H.Shelf.load_faults c.args.shelf.now)
    (g.H.Shelf.load_faults c.expand.new.shelf)) c.args.source.now (names_of c.expand.new.names) c.in-Err.error
    c.in-Ok-refusal_of.failure
    c.in-Err.ensures.refused
    (subst (λ (ns : List (String Global)). EndsBy (TellsRefusal (map (λ (n : String Global). string_bytes n) ns) c.in-Err.error)
    c.in-Ok-refusal_of.failure) c.as_slice.ensures.value c.in-Ok-refusal_of.ensures)
