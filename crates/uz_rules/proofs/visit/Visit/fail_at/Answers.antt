use Rattle.uz_rules.proofs.VisitLaws.{there_limits}
use Rattle.uz_rules.proofs.visit.Visit.fail_at.Goals as goal

pub instance_fail-requires-clause-limits : goal.instance_fail-requires-clause-limits
instance_fail-requires-clause-limits c =
    there_limits c.args.self.now c.args.l c.args.c c.come_to.new.last c.requires.fits c.if-come_to.ensures
