use Rattle.std.proofs.Common.{subst}
use Rattle.std.specs.Prelude.{IfSome}
use Rattle.uz_schedule.specs.WellFormed.{WellFormed}
use Rattle.uz_check.specs.Acceptance.{Accepts}
use Rattle.uz_paths.specs.Finding.{IsAsked}
use Rattle.uz_paths.proofs.finding.find_split.Goals as goal

pub returns-in-Ok-Some-clause-accepted : goal.returns-in-Ok-Some-clause-accepted
returns-in-Ok-Some-clause-accepted c =
    subst (λ o. IfSome o (λ cert. WellFormed cert × Accepts c.args.image.now cert)) c.in-Ok-Some.field-0-is c.in-Ok-Some.ensures.accepted

pub returns-in-Ok-Some-clause-asked : goal.returns-in-Ok-Some-clause-asked
returns-in-Ok-Some-clause-asked c =
    subst (λ o. IfSome o (IsAsked c.args.image.now c.args.irq c.args.hints.now)) c.in-Ok-Some.field-0-is c.in-Ok-Some.ensures.asked
