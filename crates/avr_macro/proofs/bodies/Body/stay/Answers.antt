use Rattle.std.proofs.Common.{sym, ◌∙◌, ap}
use Rattle.std.specs.List.{slice_range}
use Rattle.avr_macro.specs.declared.bodies.Text.{Text}
use Rattle.avr_macro.specs.AtSigns.{are_plain}
use Rattle.avr_macro.proofs.Filled.{filled_stay, plain_stay}
use Rattle.avr_macro.proofs.bodies.Body.stay.Goals as goal

pub returns-then-is_call : goal.returns-then-is_call
returns-then-is_call c = λ h. filled_stay c.self.inside.substitution c.self.inside.text.value.lines _ _ _ c.self.view_is
    (sym c.puts_no_at.ensures ∙ h)

pub returns-else-is_call : goal.returns-else-is_call
returns-else-is_call c = λ h. plain_stay _ _ _ _ _ c.self.view_is
    (sym (c.are_plain.ensures ∙ ap (λ (t : Text). are_plain (slice_range t.lines c.args.start c.args.end)) c.as_ref.ensures) ∙ h)
