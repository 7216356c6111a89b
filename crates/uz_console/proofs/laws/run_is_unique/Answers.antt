use Rattle.uz_console.proofs.RunLaws.{one_run, one_stopped_run, over_or_stopped}
use Rattle.uz_console.proofs.laws.run_is_unique.Goals as goal

pub returns-clause-over : goal.returns-clause-over
returns-clause-over c = one_run

pub returns-clause-stopped : goal.returns-clause-stopped
returns-clause-stopped c = one_stopped_run

pub returns-clause-apart : goal.returns-clause-apart
returns-clause-apart c = over_or_stopped
