use Rattle.std.proofs.Common.{◌∙◌, refl, sym}
use Rattle.std.specs.Prelude.{Err}
use Rattle.uz_schedule.specs.declared.kinds.RuleVersion.TheVariants.{Two}
use Rattle.uz_paths.specs.Finding.{IsAskedWhole}
use Rattle.uz_paths.proofs.EitherLemmas.{caused, complete_again, complete_other, not_hint, whole_again}
use Rattle.uz_paths.proofs.FindLemmas.{any_cause, any_splits}
use Rattle.uz_paths.proofs.either.find_by_either.Goals as goal

pub returns-in-Ok-clause-asked : goal.returns-in-Ok-clause-asked
returns-in-Ok-clause-asked c = any_splits c.args.image.now c.args.irq c.args.hints.now c.in-Ok.cert c.in-Ok.ensures.asked

pub returns-then-is_by_rules-clause-whole : goal.returns-then-is_by_rules-clause-whole
returns-then-is_by_rules-clause-whole c =
    whole_again (IsAskedWhole c.args.image.now c.args.irq c.args.hints.now) c.args.image.now c.args.irq c.args.hints.now
    c.find_again.result c.in-Err.first (sym c.is_by_rules.ensures ∙ c.if-is_by_rules.true) c.in-Err.ensures.cause
    c.find_again.ensures.whole

pub returns-then-is_by_rules-clause-complete : goal.returns-then-is_by_rules-clause-complete
returns-then-is_by_rules-clause-complete c =
    complete_again c.args.image.now c.args.irq c.args.hints.now c.find_again.result c.in-Err.first
    (sym c.is_by_rules.ensures ∙ c.if-is_by_rules.true) c.in-Err.ensures.cause c.find_again.ensures.complete

pub returns-then-is_by_rules-clause-first : goal.returns-then-is_by_rules-clause-first
returns-then-is_by_rules-clause-first c = λ none.
    absurd (caused Two c.args.image.now c.args.irq c.args.hints.now c.in-Err.first (sym c.is_by_rules.ensures ∙ c.if-is_by_rules.true)
    c.in-Err.ensures.cause none)

pub returns-then-is_by_rules-clause-hint : goal.returns-then-is_by_rules-clause-hint
returns-then-is_by_rules-clause-hint c = λ index refused.
    absurd (not_hint c.in-Err.first index (sym c.is_by_rules.ensures ∙ c.if-is_by_rules.true) (c.in-Err.ensures.hint index refused))

pub returns-else-is_by_rules-clause-cause : goal.returns-else-is_by_rules-clause-cause
returns-else-is_by_rules-clause-cause c =
    any_cause Two c.args.image.now c.args.irq c.args.hints.now c.in-Err.first c.in-Err.ensures.cause

pub returns-else-is_by_rules-clause-complete : goal.returns-else-is_by_rules-clause-complete
returns-else-is_by_rules-clause-complete c =
    complete_other c.args.image.now c.args.irq c.args.hints.now (Err c.in-Err.first) c.in-Err.first refl
    (sym c.is_by_rules.ensures ∙ c.if-is_by_rules.false) c.in-Err.ensures.cause
