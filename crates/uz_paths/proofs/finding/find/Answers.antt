use Rattle.uz_schedule.specs.declared.kinds.RuleVersion.TheVariants.{Two}
use Rattle.uz_paths.proofs.FindLemmas.{any_err, ok_any_splits}
use Rattle.uz_paths.proofs.finding.find.Goals as goal

pub returns-clause-cause : goal.returns-clause-cause
returns-clause-cause c =
    any_err Two c.args.image.now c.args.irq c.args.hints.now c.find_joined.result c.find_joined.ensures.cause

pub returns-clause-asked : goal.returns-clause-asked
returns-clause-asked c = ok_any_splits c.args.image.now c.args.irq c.args.hints.now c.find_joined.result c.find_joined.ensures.asked
