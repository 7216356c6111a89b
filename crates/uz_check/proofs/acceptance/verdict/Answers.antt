use Rattle.uz_check.proofs.Accepting.{none_accepts, verdict_there}
use Rattle.uz_check.proofs.acceptance.verdict.Goals as goal

pub returns-clause-accepted : goal.returns-clause-accepted
returns-clause-accepted c = none_accepts c.local_is_unique.ensures c.args.image.now c.args.cert.now c.first_refusal.result
    c.requires.schedule
    c.first_refusal.ensures.first

pub returns-clause-there : goal.returns-clause-there
returns-clause-there c = verdict_there c.args.image.now c.args.cert.now c.first_refusal.result c.requires c.first_refusal.ensures.first
