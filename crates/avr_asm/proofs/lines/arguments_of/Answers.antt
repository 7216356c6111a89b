use Rattle.std.proofs.Common.{◌≡◌, ◌≤◌, length, drop, sym, ◌∙◌, ap, subst, arith}
use Rattle.std.proofs.lemmas.List.{drop_all}
use Rattle.std.proofs.lemmas.List.Elements.{All-drop, All-take}
use Rattle.avr_text.specs.Tokens.{Lies}
use Rattle.avr_asm.specs.Lines.{arguments_of}
use Rattle.avr_asm.proofs.LineLemmas.{no_arguments, rest_whole}
use Rattle.avr_asm.proofs.lines.arguments_of.Goals.{in-Instruction, in-Directive, in_default}
use Rattle.avr_asm.proofs.lines.arguments_of.Goals as goal

pub returns-then-skip-body-clause-lie : goal.returns-then-skip-body-clause-lie
returns-then-skip-body-clause-lie c =
    let within = Lies c.args.line_len in All-take within _ _ (All-drop within _ c.args.body.now c.requires)

pub returns-then-skip-body-clause-arguments : goal.returns-then-skip-body-clause-arguments
returns-then-skip-body-clause-arguments c =
    let body = c.args.body.now in
    let rest : arguments_of c.args.action body ≡ drop c.match-action.skip body = elim c.match-action.branch [
      | in-Instruction w ↦ ap (λ a. arguments_of a body) w.in-Instruction.is ∙ ap (λ n. drop n body) (sym w.skip-is)
      | in-Directive w ↦ ap (λ a. arguments_of a body) w.in-Directive.is ∙ ap (λ n. drop n body) (sym w.skip-is)
      | in_default w ↦
          no_arguments c.args.action body w.in_default.not-Instruction w.in_default.not-Directive
          ∙ sym (drop_all c.match-action.skip body (subst (λ n. length body ≤ n) (sym w.skip-is) (omega arith)))
    ] in
    rest_whole body c.match-action.skip ∙ sym rest

pub returns-else-skip-body-clause-arguments : goal.returns-else-skip-body-clause-arguments
returns-else-skip-body-clause-arguments c =
    let body = c.args.body.now in
    let rest : arguments_of c.args.action body ≡ drop c.match-action.skip body = elim c.match-action.branch [
      | in-Instruction w ↦ ap (λ a. arguments_of a body) w.in-Instruction.is ∙ ap (λ n. drop n body) (sym w.skip-is)
      | in-Directive w ↦ ap (λ a. arguments_of a body) w.in-Directive.is ∙ ap (λ n. drop n body) (sym w.skip-is)
      | in_default w ↦
          no_arguments c.args.action body w.in_default.not-Instruction w.in_default.not-Directive
          ∙ sym (drop_all c.match-action.skip body (subst (λ n. length body ≤ n) (sym w.skip-is) (omega arith)))
    ] in
    sym (drop_all c.match-action.skip body c.if-skip-body.false) ∙ sym rest
