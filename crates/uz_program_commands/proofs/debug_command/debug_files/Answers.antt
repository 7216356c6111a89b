use Rattle.std.proofs.Common.{◌∙◌}
use Rattle.uz_program_commands.proofs.DebugLemmas.{debug_without_pads}
use Rattle.uz_program_commands.proofs.debug_command.debug_files.Goals as goal

pub returns-in-Ok-clause-gives : goal.returns-in-Ok-clause-gives
returns-in-Ok-clause-gives g c =
    c.debug_script.ensures.gives (g.H.Shelf.files c.args.shelf.now) (g.H.Shelf.load_faults c.args.shelf.now) c.args.hex.now
    c.args.pads.now c.args.irq c.reset_debugger.ensures.files c.reset_debugger.ensures.load_faults c.in-Ok.ensures.starts

pub returns-in-Err-clause-gives : goal.returns-in-Err-clause-gives
returns-in-Err-clause-gives g c =
    debug_without_pads _ _ c.args.hex.now c.args.pads.now c.args.irq c.args.script.now c.in-Err.failure c.in-Err.ensures.fails

pub returns-in-Ok-clause-files : goal.returns-in-Ok-clause-files
returns-in-Ok-clause-files g c = c.debug_script.ensures.files ∙ c.reset_debugger.ensures.files
