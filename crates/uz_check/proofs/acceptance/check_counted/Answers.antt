use Rattle.uz_check.proofs.Common.{refl, Some}
use Rattle.uz_check.proofs.Accepting.{none_accepts, rules_hold, verdict_there}
use Rattle.uz_check.proofs.acceptance.check_counted.Goals as goal

pub invariant_of-result : goal.invariant_of-result
invariant_of-result c = (c.requires, rules_hold c.args.image c.args.cert c.requires.schedule c.in-None.ensures.first)

pub returns-in-None-clause-certified : goal.returns-in-None-clause-certified
returns-in-None-clause-certified c = c.soundness.ensures.certified c.args.image c.args.cert c.requires
    (rules_hold c.args.image c.args.cert c.requires.schedule c.in-None.ensures.first)

pub returns-in-None-clause-accepted : goal.returns-in-None-clause-accepted
returns-in-None-clause-accepted c = (λ _. rules_hold c.args.image c.args.cert c.requires.schedule c.in-None.ensures.first, λ _. refl)

pub returns-in-Some-clause-accepted : goal.returns-in-Some-clause-accepted
returns-in-Some-clause-accepted c =
    let accepts = none_accepts c.local_is_unique.ensures c.args.image c.args.cert (Some c.in-Some.why) c.requires.schedule
    c.in-Some.ensures.first in
    (λ ok. absurd cc, λ rules. absurd (cc (accepts.1 rules)))

pub returns-in-Some-clause-there : goal.returns-in-Some-clause-there
returns-in-Some-clause-there c = verdict_there c.args.image c.args.cert (Some c.in-Some.why) c.requires c.in-Some.ensures.first
