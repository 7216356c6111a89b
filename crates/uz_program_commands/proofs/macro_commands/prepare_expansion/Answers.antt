use Rattle.std.proofs.Common.{◌∙◌, ap, refl}
use Rattle.uz_shelf.specs.Faults.{Rose}
use Rattle.avr_macro.specs.Answers.{names_of}
use Rattle.uz_program_commands.specs.MacroCommands.{IsExpanded, expanded_line}
use Rattle.uz_program_commands.proofs.MacroLemmas.{expanded_work, fails_flat, text_of}
use Rattle.uz_program_commands.proofs.macro_commands.prepare_expansion.Goals as goal

pub returns-in-Err-clause-fails : goal.returns-in-Err-clause-fails
returns-in-Err-clause-fails g c =
    fails_flat (g.H.Shelf.files c.args.shelf.now) (Rose (g.H.Shelf.load_faults c.args.shelf.now)
    (g.H.Shelf.load_faults c.expand_file.new.shelf)) c.args.source.now (IsExpanded c.args.file.now) c.in-Err.failure
    c.in-Err.ensures.fails

pub returns-clause-work : goal.returns-clause-work
returns-clause-work g c =
    expanded_work (g.H.Shelf.files c.args.shelf.now) c.args.source.now c.args.file.now (names_of c.in-Ok.source.names)
    (text_of c.in-Ok.source.flat) _ c.in-Ok.ensures.said refl
    (c.in_ok-line.ensures ∙ ap expanded_line c.as_slice.ensures.value)
