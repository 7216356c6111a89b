use Rattle.uz_cert_laws.proofs.ScheduleLines.{run_again}
use Rattle.uz_cert_laws.proofs.line_laws.run_line.Goals as goal

pub returns-clause-again : goal.returns-clause-again
returns-clause-again c kinds left before count kind k l f = run_again kinds left before count kind k l f
