use Rattle.uz_shelf.specs.Faults.{Rose}
use Rattle.uz_files.specs.RunFiles.{RunPreface}
use Rattle.uz_program_commands.proofs.HintsLemmas.{only_room, told_of}
use Rattle.uz_program_commands.proofs.hints_command.prepare.Goals as goal

pub returns-in-Ok-clause-told : goal.returns-in-Ok-clause-told
returns-in-Ok-clause-told g c =
    told_of _ c.args.input.now.hex.now c.args.input.now.pads.now c.args.input.now.irq c.in-Ok.console c.hints_of.result
    c.in-Ok.ensures.starts
    c.hints_of.ensures.told

pub returns-in-Ok-clause-fails : goal.returns-in-Ok-clause-fails
returns-in-Ok-clause-fails g c =
    only_room (RunPreface (g.H.Shelf.files c.args.shelf.now)
    (Rose (g.H.Shelf.load_faults c.args.shelf.now) (g.H.Shelf.load_faults c.reset_console.new.shelf)) c.args.input.now.hex.now
    c.args.input.now.pads.now)
    c.hints_of.result c.hints_of.ensures.memory
