use Rattle.uz_cert_laws.proofs.PointLine.{point_again, point_only}
use Rattle.uz_cert_laws.proofs.line_laws.point_line.Goals as goal

pub returns-clause-again : goal.returns-clause-again
returns-clause-again c v h lines points left p a n f o i = point_again v h lines points left p a n f o i

pub returns-clause-only : goal.returns-clause-only
returns-clause-only c v h lines points left w s a n l e = point_only v h lines points left w s a n l e
