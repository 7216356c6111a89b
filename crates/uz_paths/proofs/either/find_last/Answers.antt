use Rattle.uz_paths.proofs.EitherLemmas.{told_cause}
use Rattle.uz_paths.proofs.either.find_last.Goals as goal

pub returns-in-None-clause-cause : goal.returns-in-None-clause-cause
returns-in-None-clause-cause c =
    told_cause c.args.image.now c.args.irq c.args.hints.now c.args.first c.args.second c.told_of.result c.requires.first
    c.requires.second c.told_of.ensures
