use Rattle.uz_core.proofs.StateKept.{run_kept, run_part_kept}
use Rattle.uz_console.proofs.laws.run_keeps_states.Goals as goal

pub returns-clause-run : goal.returns-clause-run
returns-clause-run c = run_kept

pub returns-clause-part : goal.returns-clause-part
returns-clause-part c = run_part_kept
