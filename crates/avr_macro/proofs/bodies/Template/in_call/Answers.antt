use Rattle.std.proofs.Common.{List, ℕ, length, map, sym, subst, ◌∙◌, ap}
use Rattle.avr_macro.specs.declared.bodies.Text.{Text}
use Rattle.avr_macro.specs.Arguments.{replaced}
use Rattle.avr_macro.specs.Kinds.{AreBlocks}
use Rattle.avr_macro.proofs.Slices.{whole_body}
use Rattle.avr_macro.proofs.Levels.{as_many}
use Rattle.avr_macro.proofs.bodies.Template.in_call.Goals as goal

pub invariant_of-body : goal.invariant_of-body
invariant_of-body c =
    subst (λ (t : Text). AreBlocks (map (replaced c.args.substitution.arguments c.args.substitution.call) t.lines)
    c.in_ok-blocks.blocks.value) (sym c.in_ok-text.ensures) c.in_ok-blocks.ensures

pub returns : goal.returns
returns c =
    let put : List ℕ → List ℕ = replaced c.args.substitution.arguments c.args.substitution.call in
    let count = c.count-end.ensures ∙ ap (λ (t : Text). length t.lines) c.as_ref.ensures in
    whole_body _ _ (as_many put _ _ _ c.in_ok-new.ensures.ok count)
    ∙ c.in_ok-new.ensures.ok ∙ ap (λ (t : Text). map put t.lines) c.in_ok-text.ensures
