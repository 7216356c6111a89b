use Rattle.std.proofs.Common.{inr}
use Rattle.uz_files.proofs.EndingLemmas.{run_outcome}
use Rattle.uz_program_commands.proofs.dis_command.run_dis.Goals as goal

pub returns-clause-outcome : goal.returns-clause-outcome
returns-clause-outcome g c =
    run_outcome _ _ c.list_file-listed.result c.finish.result _ _ _ _ _ _ inr c.list_file-listed.ensures.files
    c.list_file-listed.ensures.gives c.finish.ensures.comes
