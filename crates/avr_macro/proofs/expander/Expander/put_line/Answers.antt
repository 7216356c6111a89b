use Rattle.std.specs.Option.{option_map}
use Rattle.avr_macro.specs.LineViews.{seen_setting}
use Rattle.avr_macro.specs.Steps.{seen_expander}
use Rattle.avr_macro.specs.Views.{seen_frame}
use Rattle.avr_macro.proofs.LineMoves.{line_put}
use Rattle.avr_macro.proofs.expander.Expander.put_line.Goals as goal

pub returns-clause-gives : goal.returns-clause-gives
returns-clause-gives c =
    line_put c.args.line.now (option_map seen_setting c.args.setting) (seen_frame c.args.frame) _ (seen_expander c.args.self.now)
    _ _ _ _ _ _ c.is_full.ensures.full c.is_long.ensures c.if-is_full.false c.if-is_long.false c.passed.ensures
    c.in_ok-push-2.ensures.pushed c.in_ok-set.ensures c.in_ok-put_text.ensures c.in_ok-push.ensures.items
