use Rattle.std.proofs.Common.{◌≡◌, ℕ, ◌+◌, ◌++◌, Bool, List, refl, sym, subst, add-one}
use Rattle.std.specs.Ordering.{nat_cmp}
use Rattle.std.specs.FinMap.{FinMap}
use Rattle.avr_dis.specs.Listing.{Listed, Adds}
use Rattle.avr_dis.proofs.lines.listing.Goals as goal

pub loop-at-init : goal.loop-at-init
unfolding Listed
loop-at-init c = (c.new-text.ensures.items, refl)

-- one word more
added_word : (image : FinMap nat_cmp ℕ) (at : ℕ) (before after : List ℕ) (taken two : Bool) → Listed image at before taken
    → (added : List ℕ) × Adds image at taken added two × (after ≡ before ++ added) → Listed image (at + 1) after two
unfolding Listed
added_word image at before after taken two h a = subst (λ k. Listed image k after two) (sym (add-one at)) (before, taken, a.0, h, a.1, a.2)

pub loop-at-preserved : goal.loop-at-preserved
loop-at-preserved c = added_word c.args.image.now c.loop-at.at c.loop-at.text.items c.add_word.new.text.items c.loop-at.taken
    c.in_ok-taken.taken c.loop-at.invariant c.in_ok-taken.ensures
