use Rattle.uz_shelf.specs.Faults.{Rose}
use Rattle.uz_files.specs.RunFiles.{RunPreface}
use Rattle.uz_program_commands.proofs.WaveLemmas.{only_room, task_heard}
use Rattle.uz_program_commands.proofs.wave_command.prepare.Goals as goal

pub hear_task-requires : goal.hear_task-requires
hear_task-requires g c = let run = c.in-Ok.ensures.starts.run 0 in (run.0, run.2)

pub returns-in-Ok-clause-task : goal.returns-in-Ok-clause-task
returns-in-Ok-clause-task g c =
    task_heard _ c.args.input.now.hex.now c.args.input.now.pads.now c.args.input.now.irq c.args.input.now.clocks c.in-Ok.console
    c.hear_task.result
    c.in-Ok.ensures.starts
    c.hear_task.ensures.task

pub returns-in-Ok-clause-fails : goal.returns-in-Ok-clause-fails
returns-in-Ok-clause-fails g c =
    only_room (RunPreface (g.H.Shelf.files c.args.shelf.now)
    (Rose (g.H.Shelf.load_faults c.args.shelf.now) (g.H.Shelf.load_faults c.reset_console.new.shelf)) c.args.input.now.hex.now
    c.args.input.now.pads.now)
    c.hear_task.result c.hear_task.ensures.memory
