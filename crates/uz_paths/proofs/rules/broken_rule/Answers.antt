use Rattle.uz_paths.proofs.RuleLemmas.{rule_there, exact_rule, fault_told, refusal_told}
use Rattle.uz_paths.proofs.rules.broken_rule.Goals as goal

pub returns-clause-rule : goal.returns-clause-rule
returns-clause-rule c = rule_there c.args.image.now c.args.irq c.args.hints.now c.args.index c.rule_at.result c.rule_at.ensures

pub returns-clause-exact : goal.returns-clause-exact
returns-clause-exact c = exact_rule c.args.image.now c.args.irq c.args.hints.now c.args.index c.rule_at.result c.rule_at.ensures

pub returns-clause-fault : goal.returns-clause-fault
returns-clause-fault c = fault_told c.args.image.now c.args.irq c.args.hints.now c.args.index c.rule_at.result c.rule_at.ensures

pub returns-clause-told : goal.returns-clause-told
returns-clause-told c = refusal_told c.args.image.now c.args.irq c.args.hints.now c.args.index c.rule_at.result c.rule_at.ensures
