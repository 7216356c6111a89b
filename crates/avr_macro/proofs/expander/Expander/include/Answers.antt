use Rattle.std.proofs.Common.{◌≡◌, subst, true, false, arith, nat_le}
use Rattle.std.proofs.lemmas.Bool.Decides.{nat_tests}
use Rattle.avr_macro.specs.Blocks.{is_zero}
use Rattle.avr_macro.specs.Steps.{Gives, seen_expander}
use Rattle.avr_macro.specs.Views.{seen_frame}
use Rattle.avr_macro.proofs.LineMoves.{file_entered}
use Rattle.avr_macro.proofs.expander.Expander.include.Goals as goal

pub returns-clause-gives : goal.returns-clause-gives
returns-clause-gives c =
    let shallow : nat_le 8 c.args.frame.includes ≡ false = grind (arith, nat_tests) in
    let outside : is_zero c.args.frame.blocks ≡ true = grind (arith, nat_tests) in
    subst (Gives c.enter.result (seen_expander c.enter.new.self))
    (file_entered _ c.args.bytes.now (seen_frame c.args.frame) _ _ _ shallow outside c.in_ok-inner.ensures c.passed.ensures)
    c.enter.ensures.gives
