use Rattle.uz_program_commands.specs.TraceValues.{end_status, last_line}
use Rattle.std.proofs.Common.{refl}
use Rattle.uz_files.specs.declared.status.Status.TheVariants.{NoMemory}
use Rattle.uz_files.proofs.PrintedLemmas.{comes_ended, lacks_after}
use Rattle.uz_program_commands.proofs.trace_run.end_run.Goals as goal

pub returns-in-Ok-clause-comes : goal.returns-in-Ok-clause-comes
returns-in-Ok-clause-comes g c = λ files old printed before.
    comes_ended c.in-Ok.ending printed _ _ _ _ files old _ _ c.in-Ok.ensures before (c.end_with.ensures.comes files)

pub returns-in-Err-clause-comes : goal.returns-in-Err-clause-comes
returns-in-Err-clause-comes g c = λ files old printed before.
    lacks_after printed (last_line c.args.clocks c.args.run_end) (end_status c.args.run_end) NoMemory _ files old _ before refl
