use Rattle.std.proofs.Common.{subst}
use Rattle.uz_paths.specs.Rules.{IsRuleAt}
use Rattle.uz_certificate_commands.specs.HintedValues.{hints_seen}
use Rattle.uz_certificate_commands.proofs.WhyLemmas.{hint_told}
use Rattle.uz_certificate_commands.proofs.why_command.broken_rule_text.Goals as goal

pub returns-in-Some : goal.returns-in-Some
returns-in-Some c =
    hint_told c.args.read.now.image c.args.irq (hints_seen c.args.read.now.hints) c.args.index c.in-Some.rule c.hint_text.result
    (subst (λ l. IsRuleAt c.args.read.now.image c.args.irq l c.args.index c.in-Some.rule) c.as_slice-hints.ensures.value
    c.in-Some.ensures.rule) c.hint_text.ensures
