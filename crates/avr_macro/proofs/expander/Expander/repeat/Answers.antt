use Rattle.std.proofs.Common.{subst, w64, rules, FitsSigned}
use Rattle.std.proofs.lemmas.Int.{to_z-of_z}
use Rattle.avr_macro.specs.Steps.{Gives, seen_expander}
use Rattle.avr_macro.proofs.LineMoves.{repeat_entered}
use Rattle.avr_macro.proofs.expander.Expander.repeat.Goals as goal

pub returns-in_ok-inner-in-Some-clause-gives : goal.returns-in_ok-inner-in-Some-clause-gives
returns-in_ok-inner-in-Some-clause-gives c =
    let fits : FitsSigned w64 c.in-Some.times = search rules in
    subst (Gives c.enter.result (seen_expander c.enter.new.self)) (repeat_entered _ _ _ _ _ _ _
    _ c.in-Some.is (to_z-of_z w64 c.in-Some.times fits) c.if-times-ge0.true c.if-times-le65535.true
    c.in_ok-inner-in-Some.ensures c.passed.ensures) c.enter.ensures.gives
