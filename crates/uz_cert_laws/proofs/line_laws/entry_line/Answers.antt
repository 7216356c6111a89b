use Rattle.uz_cert_laws.proofs.EntryLine.{entry_again, entry_only}
use Rattle.uz_cert_laws.proofs.line_laws.entry_line.Goals as goal

pub returns-clause-again : goal.returns-clause-again
returns-clause-again c h lines points e a f = entry_again h lines points e a f

pub returns-clause-only : goal.returns-clause-only
returns-clause-only c h lines points w s a n e = entry_only h lines points w s a n e
