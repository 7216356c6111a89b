use Rattle.std.proofs.Common.{◌∙◌, [], ap, get_or, subst, arith, List, ℕ}
use Rattle.avr_macro.specs.Steps.{GivesStep, seen_expander}
use Rattle.avr_macro.specs.Views.{seen_frame}
use Rattle.avr_macro.proofs.LineMoves.{line_moves}
use Rattle.avr_macro.proofs.expander.Expander.step.Goals as goal

pub returns-in-Some-clause-gives : goal.returns-in-Some-clause-gives
returns-in-Some-clause-gives c =
    subst (GivesStep c.line.result (seen_expander c.args.self.now) (seen_expander c.line.new.self) (seen_frame c.args.frame))
    (line_moves c.args.frame (seen_expander c.args.self.now) c.in-Some.line.now (omega arith) c.args.frame.within
    (c.in-Some.ensures ∙ ap (λ (t : List (List ℕ)). get_or t c.args.frame.at []) (c.as_ref.ensures ∙ c.in_ok-body.ensures)))
    c.line.ensures.gives

pub returns-clause-gives : goal.returns-clause-gives
returns-clause-gives c =
    subst (GivesStep c.line-in-None.result (seen_expander c.args.self.now) (seen_expander c.line-in-None.new.self)
    (seen_frame c.args.frame)) (line_moves c.args.frame _ _ (omega arith) c.args.frame.within
    (c.as_slice.ensures.value ∙ c.in_ok-line-in-None.ensures
    ∙ ap (λ (t : List (List ℕ)). get_or t c.args.frame.at []) (c.as_ref-in-None.ensures ∙ c.in_ok-body.ensures)))
    c.line-in-None.ensures.gives
