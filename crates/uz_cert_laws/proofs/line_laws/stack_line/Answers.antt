use Rattle.uz_cert_laws.proofs.HeadLines.{stack_again}
use Rattle.uz_cert_laws.proofs.line_laws.stack_line.Goals as goal

pub returns-clause-again : goal.returns-clause-again
returns-clause-again c h s f = stack_again h s f
