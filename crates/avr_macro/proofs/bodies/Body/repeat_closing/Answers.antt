use Rattle.std.proofs.Common.{sym, subst, ◌∙◌, ap}
use Rattle.std.specs.List.Sorted.{IsNonDecreasingBy}
use Rattle.avr_macro.specs.declared.blocks.Blocks.{Blocks}
use Rattle.avr_macro.proofs.BlockEnds.{blocks_in_order}
use Rattle.avr_macro.proofs.bodies.Body.repeat_closing.Goals as goal

pub closing_of-requires : goal.closing_of-requires
closing_of-requires c =
    let kept = c.as_slice.ensures.value ∙ ap (λ (b : Blocks). b.repeats.items) c.as_ref.ensures ∙ c.self.invariant.repeats in
    subst (IsNonDecreasingBy (λ b. b.line)) (sym kept) (blocks_in_order _ _ _)
