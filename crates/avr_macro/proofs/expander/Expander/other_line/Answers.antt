use Rattle.std.proofs.Common.{◌≡◌, subst, false, ◌∙◌, ap, arith, nat_le}
use Rattle.std.proofs.lemmas.Bool.Decides.{nat_tests}
use Rattle.avr_macro.specs.Moves.{body_of}
use Rattle.avr_macro.specs.Steps.{Gives, seen_expander}
use Rattle.avr_macro.specs.Views.{seen_frame}
use Rattle.avr_macro.proofs.LineMoves.{calls_kept, refused_call}
use Rattle.avr_macro.proofs.expander.Expander.other_line.Goals as goal

pub returns-in_ok-keep-in-Ok-clause-gives : goal.returns-in_ok-keep-in-Ok-clause-gives
returns-in_ok-keep-in-Ok-clause-gives c =
    let shallow : nat_le 16 c.args.frame.blocks ≡ false = grind (arith, nat_tests) in
    let found = c.in-Some-get.ensures ∙ ap (λ w. body_of w (seen_expander c.args.self.now)) c.in-Some.ensures in
    subst (Gives c.call.result (seen_expander c.call.new.self))
    (calls_kept _ c.args.line.now (seen_frame c.args.frame) (seen_expander c.args.self.now) _ _
    c.in_ok-keep-in-Ok.ensures found shallow c.in-Ok.ensures.0 c.in-Ok.ensures.1) c.call.ensures.gives

pub returns-in-Err-clause-gives : goal.returns-in-Err-clause-gives
returns-in-Err-clause-gives c =
    let shallow : nat_le 16 c.args.frame.blocks ≡ false = grind (arith, nat_tests) in
    let found = c.in-Some-get.ensures ∙ ap (λ w. body_of w (seen_expander c.args.self.now)) c.in-Some.ensures in
    refused_call c.args.line.now (seen_frame c.args.frame) (seen_expander c.args.self.now) _ _ found shallow c.in-Err.ensures
