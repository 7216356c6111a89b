use Rattle.uz_cert_laws.proofs.ScheduleLines.{rest_again}
use Rattle.uz_cert_laws.proofs.line_laws.rest_line.Goals as goal

pub returns-clause-again : goal.returns-clause-again
returns-clause-again c h lines points least r a f l = rest_again h lines points least r a f l
