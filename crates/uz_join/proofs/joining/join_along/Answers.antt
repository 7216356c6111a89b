use Rattle.uz_join.proofs.SameFacts.{same_as_itself}
use Rattle.uz_join.proofs.joining.join_along.Goals as goal

pub returns-in-None-clause-same : goal.returns-in-None-clause-same
returns-in-None-clause-same c = same_as_itself c.args.points.items
