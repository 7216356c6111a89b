use Rattle.uz_cert_laws.proofs.HeadLines.{cell_again}
use Rattle.uz_cert_laws.proofs.line_laws.cell_line.Goals as goal

pub returns-clause-again : goal.returns-clause-again
returns-clause-again c h least cell f l = cell_again h least cell f l
