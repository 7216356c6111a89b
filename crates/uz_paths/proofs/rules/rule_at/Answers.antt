use Rattle.std.proofs.Common.{arith}
use Rattle.std.proofs.lemmas.Option.{slice_get-get_or}
use Rattle.uz_paths.proofs.RuleLemmas.{of_hint, of_missing, of_none}
use Rattle.uz_paths.proofs.rules.rule_at.Goals as goal

pub returns-then-i-hints : goal.returns-then-i-hints
returns-then-i-hints c =
    of_hint c.args.image.now c.args.irq c.args.hints.now c.args.i _ c.first_rule.result
    (slice_get-get_or c.args.hints.now c.args.i _ c.if-i-hints.true) c.first_rule.ensures

pub returns-then-i-hints-2 : goal.returns-then-i-hints-2
returns-then-i-hints-2 c =
    of_missing c.args.image.now c.args.irq c.args.hints.now c.args.i c.missing.result (omega arith) c.missing.ensures

pub returns-else-i-hints-2 : goal.returns-else-i-hints-2
returns-else-i-hints-2 c = of_none c.args.image.now c.args.irq c.args.hints.now c.args.i (omega arith)
