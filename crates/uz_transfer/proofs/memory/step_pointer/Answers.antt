use Rattle.std.proofs.Common.{◌≡◌, ◌∙◌, ap, subst, sym}
use Rattle.uz_range.specs.Rules.{pair_add_answer, pair_sub_answer}
use Rattle.uz_transfer.specs.Values.{with_pair_value}
use Rattle.uz_transfer.specs.Memory.{with_pointer_range}
use Rattle.uz_transfer.proofs.memory.step_pointer.Goals as goal

pub returns-in-PostIncrement : goal.returns-in-PostIncrement
returns-in-PostIncrement c =
    let old = c.args.at.now in
    subst (λ mode. c.set_pair_val.new.at ≡ with_pointer_range mode old old) (sym c.in-PostIncrement.is)
    (c.set_pair_val.ensures ∙ ap (λ r. with_pair_value c.in-PostIncrement.pointer r.span old)
    (c.pair_add-range.ensures.row ∙ ap (λ a. pair_add_answer a 1) c.exact_pair.ensures))

pub returns-in-PreDecrement : goal.returns-in-PreDecrement
returns-in-PreDecrement c =
    let old = c.args.at.now in
    subst (λ mode. c.set_pair_val-in-PreDecrement.new.at ≡ with_pointer_range mode old old) (sym c.in-PreDecrement.is)
    (c.set_pair_val-in-PreDecrement.ensures ∙ ap (λ r. with_pair_value c.in-PreDecrement.pointer r.span old)
    (c.pair_sub-range.ensures.row ∙ ap (λ a. pair_sub_answer a 1) c.exact_pair-in-PreDecrement.ensures))
