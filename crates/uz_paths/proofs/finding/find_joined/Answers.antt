use Rattle.std.proofs.Common.{subst}
use Rattle.std.specs.Prelude.{IfSome}
use Rattle.uz_schedule.specs.WellFormed.{WellFormed}
use Rattle.uz_check.specs.Acceptance.{Accepts}
use Rattle.uz_paths.specs.Finding.{IsAskedWhole, IsBy}
use Rattle.uz_paths.proofs.FindLemmas.{found_unhinted, refused_alike}
use Rattle.uz_paths.proofs.finding.find_joined.Goals as goal

pub returns-in-Ok-Some-clause-hint : goal.returns-in-Ok-Some-clause-hint
returns-in-Ok-Some-clause-hint c = λ index refused.
    found_unhinted c.in-Ok-Some.field-0 c.in-Ok-Some.cert index (c.in-Ok-Some.ensures.hint index refused)

pub returns-in-Err-clause-hint : goal.returns-in-Err-clause-hint
returns-in-Err-clause-hint c = λ index refused. refused_alike c.in-Err.why index (c.in-Err.ensures.hint index refused)

pub returns-in-Ok-Some-clause-accepted : goal.returns-in-Ok-Some-clause-accepted
returns-in-Ok-Some-clause-accepted c =
    subst (λ o. IfSome o (λ cert. WellFormed cert × Accepts c.args.image.now cert)) c.in-Ok-Some.field-0-is c.in-Ok-Some.ensures.accepted

pub returns-in-Ok-Some-clause-asked : goal.returns-in-Ok-Some-clause-asked
returns-in-Ok-Some-clause-asked c =
    subst (λ o. IfSome o (IsAskedWhole c.args.image.now c.args.irq c.args.hints.now)) c.in-Ok-Some.field-0-is c.in-Ok-Some.ensures.asked

pub returns-in-Ok-Some-clause-version : goal.returns-in-Ok-Some-clause-version
returns-in-Ok-Some-clause-version c =
    subst (λ o. IfSome o (IsBy c.args.version)) c.in-Ok-Some.field-0-is c.in-Ok-Some.ensures.version
