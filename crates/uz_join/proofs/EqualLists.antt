-- Lists that compare equal by the derived `==` of their elements are one.
use Rattle.uz_join.proofs.Common.{◌≡◌, true, refl, sym, ap, List, true≢false, eqb-true, pointwise, PairFact}
use Rattle.uz_schedule.specs.Exact.{exact_bit, exact_compared, exact_list, exact_wide, left, right}
use Rattle.uz_schedule.specs.declared.facts.Bit.{Bit}
use Rattle.uz_schedule.specs.declared.facts.Compared.{Compared}
use Rattle.uz_schedule.specs.declared.facts.PairFact.TheVariants.{Any, Between, Line, Loop}
use Rattle.uz_schedule.specs.declared.ranges.Wide.{Wide}
use Rattle.uz_schedule.specs.contracts.facts.BitPartialEq as bits
use Rattle.uz_schedule.specs.contracts.facts.ComparedPartialEq as comparisons
use Rattle.uz_schedule.specs.contracts.facts.PairFactPartialEq as facts
use Rattle.uz_schedule.specs.contracts.ranges.WidePartialEq as wides

pub equal_flags : (a b : List Bit) → pointwise (bits.TheImpl.eq-value).it a b ≡ true → a ≡ b
equal_flags = exact_list (bits.TheImpl.eq-value).it exact_bit

pub equal_compared : (a b : Compared) → (comparisons.TheImpl.eq-value).it a b ≡ true → a ≡ b
equal_compared = exact_compared

pub equal_ranges : (a b : List Wide) → pointwise (wides.TheImpl.eq-value).it a b ≡ true → a ≡ b
equal_ranges = exact_list (wides.TheImpl.eq-value).it exact_wide

exact_fact : (a b : PairFact) → (facts.TheImpl.eq-value).it a b ≡ true → a ≡ b
exact_fact Any Any h = refl
exact_fact (Between a) (Between b) h = ap Between (exact_wide a b h)
exact_fact (Line a b) (Line c d) h = λ i. Line (eqb-true a c (left _ _ h) i) (eqb-true b d (right _ _ h) i)
exact_fact (Loop a b) (Loop c d) h = λ i. Loop (eqb-true a c (left _ _ h) i) (eqb-true b d (right _ _ h) i)
exact_fact Any (Between b) h = absurd (true≢false (sym h))
exact_fact Any (Line c d) h = absurd (true≢false (sym h))
exact_fact Any (Loop c d) h = absurd (true≢false (sym h))
exact_fact (Between a) Any h = absurd (true≢false (sym h))
exact_fact (Between a) (Line c d) h = absurd (true≢false (sym h))
exact_fact (Between a) (Loop c d) h = absurd (true≢false (sym h))
exact_fact (Line a b) Any h = absurd (true≢false (sym h))
exact_fact (Line a b) (Between c) h = absurd (true≢false (sym h))
exact_fact (Line a b) (Loop c d) h = absurd (true≢false (sym h))
exact_fact (Loop a b) Any h = absurd (true≢false (sym h))
exact_fact (Loop a b) (Between c) h = absurd (true≢false (sym h))
exact_fact (Loop a b) (Line c d) h = absurd (true≢false (sym h))

pub equal_facts : (a b : List PairFact) → pointwise (facts.TheImpl.eq-value).it a b ≡ true → a ≡ b
equal_facts = exact_list (facts.TheImpl.eq-value).it exact_fact
