use Rattle.uz_shelf.specs.Faults.{Rose}
use Rattle.avr_asm.specs.Assembly.{seen_built}
use Rattle.avr_macro.specs.Answers.{names_of}
use Rattle.uz_program_commands.specs.MacroCommands.{IsBuilt}
use Rattle.uz_program_commands.proofs.MacroLemmas.{built_work, fails_flat, text_of, unbuilt_fails}
use Rattle.uz_program_commands.proofs.macro_commands.prepare_build.Goals as goal

pub returns-in-Err-clause-fails : goal.returns-in-Err-clause-fails
returns-in-Err-clause-fails g c =
    fails_flat (g.H.Shelf.files c.args.shelf.now) (Rose (g.H.Shelf.load_faults c.args.shelf.now)
    (g.H.Shelf.load_faults c.expand_file.new.shelf)) c.args.source.now (IsBuilt c.args.hex.now) c.in-Err.failure
    c.in-Err.ensures.fails

pub returns-in-Err-assemble_flat-clause-fails : goal.returns-in-Err-assemble_flat-clause-fails
returns-in-Err-assemble_flat-clause-fails g c =
    unbuilt_fails (g.H.Shelf.files c.args.shelf.now) (Rose (g.H.Shelf.load_faults c.args.shelf.now)
    (g.H.Shelf.load_faults c.expand_file.new.shelf)) c.args.source.now c.args.hex.now (names_of c.in-Ok.source.names)
    (text_of c.in-Ok.source.flat)
    c.in-Err-assemble_flat.failure c.in-Ok.ensures.said c.in-Err-assemble_flat.ensures.fails

pub returns-clause-work : goal.returns-clause-work
returns-clause-work g c =
    built_work (g.H.Shelf.files c.args.shelf.now) c.args.source.now c.args.hex.now (names_of c.in-Ok.source.names)
    (text_of c.in-Ok.source.flat) (seen_built c.in-Ok-assemble_flat.built) _ c.in-Ok.ensures.said c.in-Ok-assemble_flat.ensures.built
    c.in_ok-work.ensures.text c.in_ok-work.ensures.line

pub returns-clause-image : goal.returns-clause-image
returns-clause-image g c = record {
  names = names_of c.in-Ok.source.names;
  flat = text_of c.in-Ok.source.flat;
  expands = c.in-Ok.ensures.said;
  output = seen_built c.in-Ok-assemble_flat.built;
  assembles = c.in-Ok-assemble_flat.ensures.built;
  reads_back = c.in_ok-work.ensures.reads_back;
}
