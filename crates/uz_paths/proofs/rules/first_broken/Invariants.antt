use Rattle.uz_paths.specs.Rules.{ObeysFirst}
use Rattle.uz_paths.proofs.rules.first_broken.Given as goal

-- the rules so far are obeyed
abbrev pub invariant-loop-rule : goal.invariant-loop-rule
invariant-loop-rule l = ObeysFirst l.image l.irq l.hints l.i l.hint l.rules l.rule-index
