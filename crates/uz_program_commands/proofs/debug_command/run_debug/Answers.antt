use Rattle.std.proofs.Common.{inr}
use Rattle.uz_files.proofs.EndingLemmas.{run_outcome}
use Rattle.uz_program_commands.proofs.debug_command.run_debug.Goals as goal

pub returns-clause-outcome : goal.returns-clause-outcome
returns-clause-outcome g c =
    run_outcome _ _ c.debug_files-debugged.result c.finish.result _ _ _ _ _ _ inr c.debug_files-debugged.ensures.files
    c.debug_files-debugged.ensures.gives c.finish.ensures.comes
