-- The rules of a hint are what is asked of it, and one of them is the first that it breaks.
use Rattle.std.proofs.Common.{◌≡◌, ◌∙◌, sym, ap, refl, subst, arith, ℕ, ◌<◌, Bool, true, false, List, length, nat_lt}
use Rattle.std.specs.Prelude.{◌⊎◌, Option, Some, None, IsSome, IfSome, MatchOption, slice_get}
use Rattle.std.proofs.Common.{inl, inr}
use Rattle.std.specs.Ordering.{nat_cmp}
use Rattle.std.specs.FinMap.{FinMap}
use Rattle.std.proofs.lemmas.Bool.Decides.{nat_tests}
use Rattle.std.proofs.lemmas.Option.{slice_get_within, same_Some}
use Rattle.avr_asm.specs.declared.output.Hint.{Hint}
use Rattle.avr_asm.specs.declared.output.Hint.TheVariants.{Start, Lines, Half, Stack, Cell, Fact}
use Rattle.uz_schedule.specs.declared.kinds.Kind.{Kind}
use Rattle.uz_schedule.specs.declared.kinds.Response.{Response}
use Rattle.uz_paths.specs.declared.rules.Rule.{Rule}
use Rattle.uz_paths.specs.declared.rules.Rule.TheVariants as rule
use Rattle.uz_paths.specs.declared.words.FrameSize.{FrameSize}
use Rattle.uz_paths.specs.Words.{first_start, first_lines, first_stack}
use Rattle.uz_paths.specs.Faults.{HalvesFit, StartFine, LinesFine, HalfFine, StackFine, CellRangeFine, CellPlaceFine, FactFine}
use Rattle.uz_paths.specs.Faults.{IsFine, HintRefusal}
use Rattle.uz_paths.specs.Rules.{StandsIn, FallsInHalf, Obeys, hint_rules, ObeysFirst, IsBroken, missing, unless_named, missing_in}
use Rattle.uz_paths.specs.Rules.{StartObeys, LinesObey, HalfObeys, StackObeys, RangeObeys, PlaceObeys, FactObeys, IsRuleAt, NoRuleAt}

-- ---- the rules together

halves_fit : (to : ℕ) (o : Option FrameSize) → StandsIn to o → FallsInHalf o → HalvesFit to o
halves_fit to None a b = tt
halves_fit to (Some size) a b = (a, b)

pub fine_by_rules : (image : FinMap nat_cmp ℕ) (irq : Response) (hints : List Hint) (i : ℕ) (h : Hint)
    → ObeysFirst image irq hints i h hint_rules 19 → IsFine image irq hints i h
fine_by_rules image irq hints i (Start kind at) kept = record {
  reads = kept 0 rule.Instruction (omega arith) refl;
  enters = kept 1 rule.Owner (omega arith) refl;
  first = kept 18 rule.Once (omega arith) refl;
}
fine_by_rules image irq hints i (Lines lines fall) kept =
    let count = kept 3 rule.LineCount (omega arith) refl in
    let clock = kept 4 rule.Fall (omega arith) refl in
    record {
      some = count.0;
      few = count.1;
      fall_some = clock.0;
      fall_in_line = clock.1;
      above = kept 5 rule.FallAfterEntry (omega arith) refl;
      first = kept 18 rule.Once (omega arith) refl;
    }
fine_by_rules image irq hints i (Half from to) kept = record {
  order = kept 2 rule.Order (omega arith) refl;
  fits = halves_fit to (first_lines hints) (kept 6 rule.InFrame (omega arith) refl) (kept 7 rule.FallInHalf (omega arith) refl);
  apart = kept 8 rule.HalfOnce (omega arith) refl;
}
fine_by_rules image irq hints i (Stack lo hi main handler) kept =
    let ram = kept 9 rule.Ram (omega arith) refl in
    let depth = kept 10 rule.Depth (omega arith) refl in
    record {
      low = ram.0;
      order = kept 2 rule.Order (omega arith) refl;
      high = ram.1;
      main_few = depth.0;
      handler_few = depth.1;
      room = kept 11 rule.Room (omega arith) refl;
      first = kept 18 rule.Once (omega arith) refl;
    }
fine_by_rules image irq hints i (Cell at owner lo hi first) kept =
    let ram = (kept 9 rule.Ram (omega arith) refl).1 in
    let only = (kept 17 rule.CellOnce (omega arith) refl).1 in
    let range : CellRangeFine owner lo hi first = record {
      order = (kept 2 rule.Order (omega arith) refl).0;
      byte = (kept 14 rule.ByteRange (omega arith) refl).0;
      owned = (kept 1 rule.Owner (omega arith) refl).0;
      within = (kept 15 rule.FirstValue (omega arith) refl).0;
    } in
    let place : CellPlaceFine hints i at = record {
      low = ram.0;
      high = ram.1;
      off_stack = (kept 12 rule.OffStack (omega arith) refl).1;
      few = (kept 16 rule.CellCount (omega arith) refl).1;
      apart_before = only.0;
      apart_after = only.1;
    } in
    record { range = range; place = place }
fine_by_rules image irq hints i (Fact at place lo hi) kept = record {
  reads = kept 0 rule.Instruction (omega arith) refl;
  order = kept 2 rule.Order (omega arith) refl;
  there = kept 13 rule.Place (omega arith) refl;
  byte = kept 14 rule.ByteRange (omega arith) refl;
}

stands : (to : ℕ) (o : Option FrameSize) → HalvesFit to o → StandsIn to o
stands to None f = tt
stands to (Some size) f = f.0

falls : (to : ℕ) (o : Option FrameSize) → HalvesFit to o → FallsInHalf o
falls to None f = tt
falls to (Some size) f = f.1

start_obeys : (image : FinMap nat_cmp ℕ) (hints : List Hint) (i : ℕ) (kind : Kind) (at : ℕ) (r : Rule) → StartFine image hints i kind at
    → StartObeys image hints i kind at r
start_obeys image hints i kind at rule.Instruction f = f.reads
start_obeys image hints i kind at rule.Owner f = f.enters
start_obeys image hints i kind at rule.Once f = f.first
start_obeys image hints i kind at other f = tt

lines_obey : (irq : Response) (hints : List Hint) (i lines fall : ℕ) (r : Rule) → LinesFine irq hints i lines fall
    → LinesObey irq hints i lines fall r
lines_obey irq hints i lines fall rule.LineCount f = (f.some, f.few)
lines_obey irq hints i lines fall rule.Fall f = (f.fall_some, f.fall_in_line)
lines_obey irq hints i lines fall rule.FallAfterEntry f = f.above
lines_obey irq hints i lines fall rule.Once f = f.first
lines_obey irq hints i lines fall other f = tt

half_obeys : (hints : List Hint) (i from to : ℕ) (r : Rule) → HalfFine hints i from to → HalfObeys hints i from to r
half_obeys hints i from to rule.Order f = f.order
half_obeys hints i from to rule.InFrame f = stands to (first_lines hints) f.fits
half_obeys hints i from to rule.FallInHalf f = falls to (first_lines hints) f.fits
half_obeys hints i from to rule.HalfOnce f = f.apart
half_obeys hints i from to other f = tt

stack_obeys : (hints : List Hint) (i lo hi main handler : ℕ) (r : Rule) → StackFine hints i lo hi main handler
    → StackObeys hints i lo hi main handler r
stack_obeys hints i lo hi main handler rule.Order f = f.order
stack_obeys hints i lo hi main handler rule.Ram f = (f.low, f.high)
stack_obeys hints i lo hi main handler rule.Depth f = (f.main_few, f.handler_few)
stack_obeys hints i lo hi main handler rule.Room f = f.room
stack_obeys hints i lo hi main handler rule.Once f = f.first
stack_obeys hints i lo hi main handler other f = tt

range_obeys : (owner : Kind) (lo hi first : ℕ) (r : Rule) → CellRangeFine owner lo hi first → RangeObeys owner lo hi first r
range_obeys owner lo hi first rule.Owner f = f.owned
range_obeys owner lo hi first rule.Order f = f.order
range_obeys owner lo hi first rule.ByteRange f = f.byte
range_obeys owner lo hi first rule.FirstValue f = f.within
range_obeys owner lo hi first other f = tt

place_obeys : (hints : List Hint) (i at : ℕ) (r : Rule) → CellPlaceFine hints i at → PlaceObeys hints i at r
place_obeys hints i at rule.Ram f = (f.low, f.high)
place_obeys hints i at rule.OffStack f = f.off_stack
place_obeys hints i at rule.CellCount f = f.few
place_obeys hints i at rule.CellOnce f = (f.apart_before, f.apart_after)
place_obeys hints i at other f = tt

fact_obeys : (image : FinMap nat_cmp ℕ) (at place lo hi : ℕ) (r : Rule) → FactFine image at place lo hi → FactObeys image at place lo hi r
fact_obeys image at place lo hi rule.Instruction f = f.reads
fact_obeys image at place lo hi rule.Order f = f.order
fact_obeys image at place lo hi rule.Place f = f.there
fact_obeys image at place lo hi rule.ByteRange f = f.byte
fact_obeys image at place lo hi other f = tt

pub rules_by_fine : (image : FinMap nat_cmp ℕ) (irq : Response) (hints : List Hint) (i : ℕ) (h : Hint) (r : Rule)
    → IsFine image irq hints i h → Obeys image irq hints i h r
rules_by_fine image irq hints i (Start kind at) r f = start_obeys image hints i kind at r f
rules_by_fine image irq hints i (Lines lines fall) r f = lines_obey irq hints i lines fall r f
rules_by_fine image irq hints i (Half from to) r f = half_obeys hints i from to r f
rules_by_fine image irq hints i (Stack lo hi main handler) r f = stack_obeys hints i lo hi main handler r f
rules_by_fine image irq hints i (Cell at owner lo hi first) r f =
    (range_obeys owner lo hi first r f.range, place_obeys hints i at r f.place)
rules_by_fine image irq hints i (Fact at place lo hi) r f = fact_obeys image at place lo hi r f

-- ---- one rule at an index

module _ (image : FinMap nat_cmp ℕ) (irq : Response) (hints : List Hint) (i : ℕ) where
  pub of_hint : (h : Hint) (o : Option Rule) → slice_get hints i ≡ Some h
      → MatchOption o (ObeysFirst image irq hints i h hint_rules 19) (λ r. IsBroken image irq hints i h hint_rules r)
      → MatchOption o (NoRuleAt image irq hints i) (λ r. IsRuleAt image irq hints i r)
  of_hint h None there kept = record {
    obeyed = λ g is. subst (λ x. ObeysFirst image irq hints i x hint_rules 19) (same_Some h g (sym there ∙ is)) kept;
    named = λ past. let inside = slice_get_within hints i h there in absurd (omega (arith, past, inside));
  }
  of_hint h (Some r) there broken = inl (record { hint = h; there = there; first = broken })

  pub of_missing : (o : Option Rule) → i ≡ length hints → o ≡ missing_in hints
      → MatchOption o (NoRuleAt image irq hints i) (λ r. IsRuleAt image irq hints i r)
  of_missing None past is = record {
    obeyed = λ g there. let inside = slice_get_within hints i g there in absurd (omega (arith, past, inside));
    named = λ e. sym is;
  }
  of_missing (Some r) past is = inr (past, sym is)

  pub of_none : length hints < i → NoRuleAt image irq hints i
  of_none past = record {
    obeyed = λ g there. let inside = slice_get_within hints i g there in absurd (omega (arith, past, inside));
    named = λ e. absurd (omega (arith, past, e));
  }

  not_earlier : (h : Hint) (r s : Rule) (a : IsBroken image irq hints i h hint_rules r) (b : IsBroken image irq hints i h hint_rules s)
      → a.place < b.place → ⊥
  not_earlier h r s a b less = a.broken (b.before a.place r less a.there)

  same_rule : (h : Hint) (r s : Rule) → IsBroken image irq hints i h hint_rules r → IsBroken image irq hints i h hint_rules s → r ≡ s
  same_rule h r s a b = by_tests (nat_lt a.place b.place) (nat_lt b.place a.place) refl refl
    where
      by_tests : (t u : Bool) → nat_lt a.place b.place ≡ t → nat_lt b.place a.place ≡ u → r ≡ s
      by_tests true u e f = absurd (not_earlier h r s a b (grind (arith, nat_tests, e)))
      by_tests false true e f = absurd (not_earlier h s r b a (grind (arith, nat_tests, f)))
      by_tests false false e f =
          let at : a.place ≡ b.place = grind (arith, nat_tests, e, f) in
          same_Some r s (sym a.there ∙ ap (slice_get hint_rules) at ∙ b.there)

  one_rule : (r s : Rule) → IsRuleAt image irq hints i r → IsRuleAt image irq hints i s → r ≡ s
  one_rule r s (inl a) (inl b) =
      let same = same_Some b.hint a.hint (sym b.there ∙ a.there) in
      same_rule a.hint r s a.first (subst (λ h. IsBroken image irq hints i h hint_rules s) same b.first)
  one_rule r s (inl a) (inr b) = let inside = slice_get_within hints i a.hint a.there in absurd (omega (arith, inside, b.0))
  one_rule r s (inr a) (inl b) = let inside = slice_get_within hints i b.hint b.there in absurd (omega (arith, inside, a.0))
  one_rule r s (inr a) (inr b) = same_Some r s (sym a.1 ∙ b.1)

  no_rule : (r : Rule) → NoRuleAt image irq hints i → IsRuleAt image irq hints i r → ⊥
  no_rule r none (inl a) =
      let first = a.first in
      first.broken (none.obeyed a.hint a.there first.place r (slice_get_within hint_rules first.place r first.there) first.there)
  no_rule r none (inr a) = let e : Some r ≡ None = sym a.1 ∙ none.named a.0 in absurd (cc)

  module _ (o : Option Rule) (answer : MatchOption o (NoRuleAt image irq hints i) (λ r. IsRuleAt image irq hints i r)) where
    pub rule_there : IfSome o (λ r. IsRuleAt image irq hints i r)
    rule_there = by_answer o answer
      where
        by_answer : (p : Option Rule) → MatchOption p (NoRuleAt image irq hints i) (λ r. IsRuleAt image irq hints i r)
            → IfSome p (λ r. IsRuleAt image irq hints i r)
        by_answer None a = tt
        by_answer (Some r) a = a

    pub exact_rule : (r : Rule) → IsRuleAt image irq hints i r → o ≡ Some r
    exact_rule r is = by_answer o answer
      where
        by_answer : (p : Option Rule) → MatchOption p (NoRuleAt image irq hints i) (λ s. IsRuleAt image irq hints i s) → p ≡ Some r
        by_answer None a = absurd (no_rule r a is)
        by_answer (Some s) a = ap Some (one_rule s r a is)

    pub fault_told : (h : Hint) → slice_get hints i ≡ Some h
        → MatchOption o (IsFine image irq hints i h) (λ r. IsFine image irq hints i h → ⊥)
    fault_told h there = by_answer o answer
      where
        at_fault : (r : Rule) → IsRuleAt image irq hints i r → IsFine image irq hints i h → ⊥
        at_fault r (inl a) fine =
            let same = same_Some h a.hint (sym there ∙ a.there) in
            a.first.broken (rules_by_fine image irq hints i a.hint r (subst (λ g. IsFine image irq hints i g) same fine))
        at_fault r (inr a) fine = let inside = slice_get_within hints i h there in absurd (omega (arith, inside, a.0))

        by_answer : (p : Option Rule) → MatchOption p (NoRuleAt image irq hints i) (λ s. IsRuleAt image irq hints i s)
            → MatchOption p (IsFine image irq hints i h) (λ r. IsFine image irq hints i h → ⊥)
        by_answer None a = fine_by_rules image irq hints i h (a.obeyed h there)
        by_answer (Some r) a = at_fault r a

    pub refusal_told : HintRefusal image irq hints i → IsSome o
    refusal_told refused = by_answer o answer refused
      where
        is_named : {X : Type 0} (r : Rule) (p : Option X) → unless_named r p ≡ None → p ≡ None → ⊥
        is_named r None e f = absurd (cc)
        is_named r (Some x) e f = absurd (cc)

        parts : (a b c : Option Rule) → missing a b c ≡ None → (a ≡ None) × (b ≡ None) × (c ≡ None)
        parts (Some r) b c e = absurd (cc)
        parts None (Some r) c e = absurd (cc)
        parts None None c e = (refl, refl, e)

        all_named : missing_in hints ≡ None → (first_start hints ≡ None) ⊎ ((first_lines hints ≡ None) ⊎ (first_stack hints ≡ None)) → ⊥
        all_named e (inl f) = is_named rule.HasStart (first_start hints) (parts _ _ _ e).0 f
        all_named e (inr (inl f)) = is_named rule.HasLines (first_lines hints) (parts _ _ _ e).1 f
        all_named e (inr (inr f)) = is_named rule.HasStack (first_stack hints) (parts _ _ _ e).2 f

        none_refused : NoRuleAt image irq hints i → HintRefusal image irq hints i → ⊥
        none_refused a (inl f) = f.faulty (fine_by_rules image irq hints i f.hint (a.obeyed f.hint f.there))
        none_refused a (inr m) = all_named (a.named m.past) m.missing

        by_answer : (p : Option Rule) → MatchOption p (NoRuleAt image irq hints i) (λ s. IsRuleAt image irq hints i s)
            → HintRefusal image irq hints i → IsSome p
        by_answer None a r = absurd (none_refused a r)
        by_answer (Some s) a r = refl
