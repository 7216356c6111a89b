-- What lies in all that a point's facts say lies in what one of them says.
use Rattle.uz_rules.proofs.Common.{and_parts, ◌≡◌, ◌<◌, ℕ, Bool, true, false, List, length, map, nat_eq, refl, ◌∙◌, ap, Ends, Fact, Val}
use Rattle.uz_rules.proofs.Common.{Instance, Point, val_of, cell_span, pairs_of, value_at, span_at, range_inside, all_below, value_inside}
use Rattle.uz_rules.proofs.Common.{pairs_inside, said_at, facts_inside}
use Rattle.uz_rules.proofs.InsideMeets.{below_tells, ContentsInside, contents_tell}

module _ (inst : Instance) (p : Point) (c : ℕ) where
  all_parts : facts_inside inst p c ≡ true → ContentsInside inst (said_at p inst c)
  unfolding facts_inside
  all_parts e = contents_tell inst (said_at p inst c) e

  pub registers_tell : length inst.regs ≡ 32 → facts_inside inst p c ≡ true
      → all_below (length inst.regs) (λ i. value_inside (value_at inst.regs i) (value_at (map (val_of inst.line c) p.regs) i)) ≡ true
  registers_tell size e = rw size (all_parts e).registers

  pub slots_tell : (vals : List Val) (facts : List Fact) → vals ≡ inst.stack.items → facts ≡ p.stack.items → facts_inside inst p c ≡ true
      → all_below (length vals) (λ i. value_inside (value_at vals i) (value_at (map (val_of inst.line c) facts) i)) ≡ true
  slots_tell vals facts is fact e =
      rw (is, fact) (and_parts (nat_eq (length inst.stack.items) (length (map (val_of inst.line c) p.stack.items))) _ (all_parts e).slots).1

  pub cells_tell : (spans : List Ends) (facts : List Fact) → spans ≡ inst.cells.items → facts ≡ p.cells.items
      → facts_inside inst p c ≡ true
      → all_below (length spans) (λ j. range_inside (span_at spans j) (span_at (map (cell_span inst.line c) facts) j)) ≡ true
  cells_tell spans facts is fact e =
      rw (is, fact) (and_parts (nat_eq (length inst.cells.items) (length (map (cell_span inst.line c) p.cells.items))) _
      (all_parts e).cells).1

  pub pairs_tell : facts_inside inst p c ≡ true
      → pairs_inside inst.pairs (pairs_of inst.line c (map (val_of inst.line c) p.regs) p.pairs) ≡ true
  pairs_tell e = (all_parts e).pairs

-- an element as it is read
pub value_fits : (vals facts : List Val) (i : ℕ) (v w : Val) (r : Bool) → i < length vals → v ≡ value_at vals i → w ≡ value_at facts i
    → r ≡ value_inside v w → all_below (length vals) (λ k. value_inside (value_at vals k) (value_at facts k)) ≡ true → r ≡ true
value_fits vals facts i v w r h is fact e all = e ∙ (ap (λ x. value_inside x w) is ∙ (ap (value_inside (value_at vals i)) fact
    ∙ below_tells (length vals) (λ k. value_inside (value_at vals k) (value_at facts k)) all i h))

pub span_fits : (spans facts : List Ends) (j : ℕ) (v w : Ends) (r : Bool) → j < length spans → v ≡ span_at spans j → w ≡ span_at facts j
    → r ≡ range_inside v w → all_below (length spans) (λ k. range_inside (span_at spans k) (span_at facts k)) ≡ true → r ≡ true
span_fits spans facts j v w r h is fact e all = e ∙ (ap (λ x. range_inside x w) is ∙ (ap (range_inside (span_at spans j)) fact
    ∙ below_tells (length spans) (λ k. range_inside (span_at spans k) (span_at facts k)) all j h))

-- what doesn't fit at one place lies in no such instance
pub dismissed : (f r : Bool) → (f ≡ true → r ≡ true) → r ≡ false → r ≡ f
dismissed true r h e = h refl
dismissed false r h e = e
