use Rattle.std.proofs.Common.{◌∙◌, sym}
use Rattle.uz_schedule.specs.declared.kinds.RuleVersion.TheVariants.{Three}
use Rattle.uz_paths.proofs.EitherLemmas.{caused}
use Rattle.uz_paths.proofs.FindLemmas.{any_cause, any_splits}
use Rattle.uz_paths.proofs.either.find_again.Goals as goal

pub returns-in-Ok-clause-asked : goal.returns-in-Ok-clause-asked
returns-in-Ok-clause-asked c = any_splits c.args.image.now c.args.irq c.args.hints.now c.in-Ok.cert c.in-Ok.ensures.asked

pub returns-then-is_by_rules-clause-complete : goal.returns-then-is_by_rules-clause-complete
returns-then-is_by_rules-clause-complete c = λ none.
    absurd (caused Three c.args.image.now c.args.irq c.args.hints.now c.in-Err.second (sym c.is_by_rules.ensures ∙ c.if-is_by_rules.true)
    c.in-Err.ensures.cause none)

pub returns-then-is_by_rules-clause-whole : goal.returns-then-is_by_rules-clause-whole
returns-then-is_by_rules-clause-whole c = λ none.
    absurd (caused Three c.args.image.now c.args.irq c.args.hints.now c.in-Err.second (sym c.is_by_rules.ensures ∙ c.if-is_by_rules.true)
    c.in-Err.ensures.cause none)

pub returns-else-is_by_rules-clause-cause : goal.returns-else-is_by_rules-clause-cause
returns-else-is_by_rules-clause-cause c =
    any_cause Three c.args.image.now c.args.irq c.args.hints.now c.in-Err.second c.in-Err.ensures.cause
