-- An instance lies in an instance of a point's box exactly where it lies in what the point's facts say at a count with its clock.
use Rattle.uz_rules.proofs.Common.{eq-eqb, or_left, or_right, false_from_ne_true, and_parts, ◌-◌, ◌<◌, ◌≤◌, ◌≡◌, ℕ, zero, suc, ◌+◌, Bool}
use Rattle.uz_rules.proofs.Common.{true, false, Option, Some, None, nat_eq, nat_le, nat_lt, refl, sym, if◌then◌else◌, ◌∙◌, ap, subst, arith}
use Rattle.uz_rules.proofs.Common.{◌*◌, ◌/◌, inl, inr, ◌&&◌, ◌||◌, ℤ, pos, negsuc, ◌+ℤ◌, ◌*ℤ◌, slice_get, option_and_then}
use Rattle.uz_rules.proofs.Common.{option_and_then_some, nat_tests, eqb_tells, ints, abs_diff, Instance, Point, Schedule, Cert, length_of}
use Rattle.uz_rules.proofs.Common.{start_of, level_at, is_in_box, clock_below, clock_at, instance_of, instance_at_clock, instance_in}
use Rattle.uz_rules.proofs.Common.{instance_at, range_inside, is_some, same_kind, same_place, lies_at, any_from, lies_in_box}
use Rattle.uz_rules.proofs.Common.{same_program_place, said_at, facts_inside, is_beside, same_Some, has_level, is_line_of, timer_inside}
use Rattle.uz_rules.proofs.Common.{stands_beside, IsAtCount, LiesAtSome}
use Rattle.std.proofs.Math.IntN.{neg_ℤ, pos-*ℤ-pos, negsuc-*ℤ-pos}
use Rattle.std.proofs.Math.Nat.{mul-div_cancel, mul_comm}
use Rattle.std.specs.Int.RustNames.{unsigned_abs}
use Rattle.uz_rules.specs.Inside.{same_timer, inside}
use Rattle.uz_rules.proofs.InsideMeets.{place_tells}

-- The clock of an instance of a point

clock_is : (length : ℕ) (z : ℤ) (clock : ℕ) → clock_below length z ≡ Some clock → z ≡ pos clock
clock_is length (pos k) clock e = by_case (nat_lt k length) e
  where
    by_case : (t : Bool) → (if t then Some k else None) ≡ Some clock → pos k ≡ pos clock
    by_case true e = ap pos (same_Some k clock e)
    by_case false e = absurd cc
clock_is length (negsuc k) clock e = absurd cc

has_clock : (s : Schedule) (p : Point) (l c : ℕ) (b : Instance) → instance_in s p l c ≡ Some b
    → pos p.clock +ℤ p.slope *ℤ pos c ≡ pos b.clock
has_clock s p l c b e = by_box (is_in_box p l c) e
  where
    by_box : (t : Bool) → (if t then option_and_then (instance_at_clock s p l c) (clock_at s p l c) else None) ≡ Some b
        → pos p.clock +ℤ p.slope *ℤ pos c ≡ pos b.clock
    by_box false e = absurd cc
    by_box true e =
        option_and_then_some (instance_at_clock s p l c) (clock_at s p l c) b e (λ clock at here.
        option_and_then_some (λ level. Some (instance_of p l c clock level)) (level_at s (start_of s l + clock)) b here (λ level got there.
        subst (λ (x : Instance). pos p.clock +ℤ p.slope *ℤ pos c ≡ pos x.clock) (same_Some (instance_of p l c clock level) b there)
        (clock_is (length_of s l) (pos p.clock +ℤ p.slope *ℤ pos c) clock at)))

clock_told : (s : Schedule) (p : Point) (c : ℕ) (inst : Instance) (at : Option Instance) → instance_in s p inst.line c ≡ at
    → lies_at at inst ≡ true → pos p.clock +ℤ p.slope *ℤ pos c ≡ pos inst.clock
clock_told s p c inst None is h = absurd cc
clock_told s p c inst (Some b) is h =
    let place = place_tells inst b (and_parts (same_place inst b) _ h).0 in
    has_clock s p inst.line c b is ∙ ap pos (sym place.clock)

-- The instance at a count, item by item

elsewhere : (x level f : Bool) → (((x && false) && level) && f) ≡ false
elsewhere true level f = refl
elsewhere false level f = refl

no_level : (x f : Bool) → (((x && true) && false) && f) ≡ false
no_level true f = refl
no_level false f = refl

seven_parts : (a b d t f : Bool) → ((a && (b && (true && (true && d)))) && (t && f))
    ≡ (((((a && b) && (d && t)) && true) && (true && true)) && f)
seven_parts true true true true f = refl
seven_parts true true true false f = refl
seven_parts true true false t f = refl
seven_parts true false d t f = refl
seven_parts false b d t f = refl

-- the same at each count
abbrev alike : Point → Instance → Bool
alike p inst = same_program_place p inst && timer_inside p inst

inside_by_facts : (p : Point) (inst : Instance) (c level : ℕ) → inside inst (instance_of p inst.line c inst.clock level)
    ≡ (((alike p inst && true) && (true && true)) && facts_inside inst p c)
unfolding facts_inside
inside_by_facts p inst c level = rw (eq-eqb inst.line inst.line refl, eq-eqb inst.clock inst.clock refl)
    (seven_parts (same_kind inst.kind p.kind) (nat_eq inst.pc p.pc) (same_timer inst (said_at p inst p.c0)) (range_inside inst.temp p.temp)
    (facts_inside inst p c))

by_level : (p : Point) (inst : Instance) (c : ℕ) (levels : ℕ → Option ℕ) (lines below : Bool) (level : Option ℕ) → levels inst.clock ≡ level
    → lies_at (if lines && true then option_and_then (λ k. option_and_then (λ v. Some (instance_of p inst.line c k v)) (levels k))
    (if below then Some inst.clock else None) else None) inst
    ≡ (((alike p inst && lines) && (below && is_some level)) && facts_inside inst p c)
by_level p inst c levels false below level e = sym (elsewhere (alike p inst) (below && is_some level) (facts_inside inst p c))
by_level p inst c levels true false level e = sym (no_level (alike p inst) (facts_inside inst p c))
by_level p inst c levels true true None e = rw e (sym (no_level (alike p inst) (facts_inside inst p c)))
by_level p inst c levels true true (Some v) e = rw e (inside_by_facts p inst c v)

-- where the clocks are equal
at_count : (s : Schedule) (p : Point) (inst : Instance) (c : ℕ) → IsAtCount p inst.clock c
    → lies_at (instance_in s p inst.line c) inst ≡ (stands_beside s p inst && facts_inside inst p c)
unfolding stands_beside
at_count s p inst c at =
    let first : nat_le p.c0 c ≡ true = (let e = at.first in grind (arith, nat_tests)) in
    let last : nat_le c p.c1 ≡ true = (let e = at.last in grind (arith, nat_tests)) in
    let clock = at.clock in
    rw (first, last, clock) (by_level p inst c (λ k. level_at s (start_of s inst.line + k)) (is_line_of p inst.line)
    (nat_lt inst.clock (length_of s inst.line)) (level_at s (start_of s inst.line + inst.clock)) refl)

-- One of several counts

pub record AnyOf (test : ℕ → Bool) (k n : ℕ) : Type 0 where
  pub number : ℕ
  pub first : k ≤ number
  pub last : number < k + n
  pub holds : test number ≡ true

pub any_tells : (test : ℕ → Bool) (k n : ℕ) → any_from test k n ≡ true → AnyOf test k n
unfolding any_from
any_tells test k zero e = absurd cc
any_tells test k (suc n) e = by_case (test k) refl e (λ f. any_tells test (suc k) n f)
  where
    by_case : (t : Bool) → test k ≡ t → (t || any_from test (suc k) n) ≡ true → (any_from test (suc k) n ≡ true → AnyOf test (suc k) n)
        → AnyOf test k (suc n)
    by_case true h e more = record { number = k; first = omega arith; last = omega arith; holds = h }
    by_case false h e more =
        let m = more e in
        record { number = m.number; first = omega (arith, m.first); last = omega (arith, m.last); holds = m.holds }

pub any_holds : (test : ℕ → Bool) (k n c : ℕ) → k ≤ c → c < k + n → test c ≡ true → any_from test k n ≡ true
unfolding any_from
any_holds test k zero c h l t = absurd (omega (arith, h, l))
any_holds test k (suc n) c h l t = elim (eqb_tells k c) [
  | inl e ↦ or_left (test k) (any_from test (suc k) n) (ap test e.1 ∙ t)
  | inr e ↦ or_right (test k) (any_from test (suc k) n) (any_holds test (suc k) n c (omega (arith, h, e.1)) (omega (arith, l)) t)
]

-- The box

at_point : (cert : Cert) (id l c : ℕ) (p : Point) → slice_get cert.points id ≡ Some p → instance_at cert id l c
    ≡ instance_in cert.schedule p l c
at_point cert id l c p is = rw is refl

found_in : (s : Schedule) (p : Point) (inst : Instance) → any_from (λ c. lies_at (instance_in s p inst.line c) inst) p.c0 (suc p.c1 - p.c0)
    ≡ true
    → (c : ℕ) × IsAtCount p inst.clock c × ((stands_beside s p inst && facts_inside inst p c) ≡ true)
found_in s p inst e =
    let any = any_tells (λ c. lies_at (instance_in s p inst.line c) inst) p.c0 (suc p.c1 - p.c0) e in
    let clock = clock_told s p any.number inst (instance_in s p inst.line any.number) refl any.holds in
    let at : IsAtCount p inst.clock any.number = record { first = any.first; last = omega (arith, any.first, any.last); clock = clock } in
    (any.number, at, sym (at_count s p inst any.number at) ∙ any.holds)

any_same : (f g : ℕ → Bool) (k n : ℕ) → ((c : ℕ) → f c ≡ g c) → any_from f k n ≡ any_from g k n
unfolding any_from
any_same f g k zero h = refl
any_same f g k (suc n) h = rw (h k, any_same f g (suc k) n h) refl

box_by_point : (cert : Cert) (id : ℕ) (p : Point) (inst : Instance) → slice_get cert.points id ≡ Some p
    → lies_in_box cert id (Some p) inst ≡ any_from (λ c. lies_at (instance_in cert.schedule p inst.line c) inst) p.c0 (suc p.c1 - p.c0)
box_by_point cert id p inst is = any_same (λ c. lies_at (instance_at cert id inst.line c) inst)
    (λ c. lies_at (instance_in cert.schedule p inst.line c) inst) p.c0 (suc p.c1 - p.c0)
    (λ c. ap (λ x. lies_at x inst) (at_point cert id inst.line c p is))

-- a point that doesn't stand beside the instance has no such instance
stands_elsewhere : (cert : Cert) (id : ℕ) (p : Point) (inst : Instance) → slice_get cert.points id ≡ Some p
    → stands_beside cert.schedule p inst ≡ false → lies_in_box cert id (Some p) inst ≡ false
stands_elsewhere cert id p inst is other = box_by_point cert id p inst is ∙ false_from_ne_true _ (λ t.
    let found = found_in cert.schedule p inst t in
    let both = and_parts (stands_beside cert.schedule p inst) _ found.2 in
    let never : true ≡ false = sym both.0 ∙ other in
    absurd cc)

-- and one that does has one exactly where a count is found
by_counts : (cert : Cert) (id : ℕ) (p : Point) (inst : Instance) (b : Bool) → slice_get cert.points id ≡ Some p
    → stands_beside cert.schedule p inst ≡ true → (b ≡ true → LiesAtSome p inst) → (LiesAtSome p inst → b ≡ true)
    → lies_in_box cert id (Some p) inst ≡ b
by_counts cert id p inst true is beside found told =
    let some = found refl in
    let facts = some.facts in
    let here : (stands_beside cert.schedule p inst && facts_inside inst p some.count) ≡ true = rw (beside, facts) refl in
    box_by_point cert id p inst is ∙ any_holds (λ c. lies_at (instance_in cert.schedule p inst.line c) inst) p.c0 (suc p.c1 - p.c0)
    some.count some.at.first (omega (arith, some.at.first, some.at.last)) (at_count cert.schedule p inst some.count some.at ∙ here)
by_counts cert id p inst false is beside found told = box_by_point cert id p inst is ∙ false_from_ne_true _ (λ t.
    let got = found_in cert.schedule p inst t in
    let both = and_parts (stands_beside cert.schedule p inst) _ got.2 in
    let never : false ≡ true = told (record { count = got.0; at = got.1; facts = both.1 }) in
    absurd cc)

-- nor has one whose kind, pc, timer or lines are others
pub box_elsewhere : (cert : Cert) (id : ℕ) (p : Point) (inst : Instance) → slice_get cert.points id ≡ Some p → is_beside p inst ≡ false
    → lies_in_box cert id (Some p) inst ≡ false
unfolding stands_beside
box_elsewhere cert id p inst is other = stands_elsewhere cert id p inst is (rw other refl)

-- the tests in the order in which they are asked: the level, which costs most, is asked last
pub box_is : (cert : Cert) (id : ℕ) (p : Point) (inst : Instance) (b : Bool) → slice_get cert.points id ≡ Some p
    → (b ≡ true → LiesAtSome p inst) → (LiesAtSome p inst → b ≡ true)
    → lies_in_box cert id (Some p) inst ≡ (is_beside p inst && (b && has_level cert.schedule inst.line inst.clock))
unfolding stands_beside
box_is cert id p inst b is found told =
    by_case (is_beside p inst) (has_level cert.schedule inst.line inst.clock) b (stands_elsewhere cert id p inst is)
    (λ beside. by_counts cert id p inst b is beside found told)
  where
    by_case : (beside level b : Bool) {x : Bool} → ((beside && level) ≡ false → x ≡ false) → ((beside && level) ≡ true → x ≡ b)
        → x ≡ (beside && (b && level))
    by_case true true true out within = within refl
    by_case true true false out within = within refl
    by_case true false true out within = out refl
    by_case true false false out within = out refl
    by_case false level b out within = out refl

-- Counts

no_slope : (z : ℤ) → unsigned_abs z ≡ 0 → (c k : ℕ) → pos k +ℤ z *ℤ pos c ≡ pos k
no_slope (pos zero) h c k = omega (arith, ints)
no_slope (pos (suc n)) h c k = absurd cc
no_slope (negsuc n) h c k = absurd cc

-- where the clock depends on no count, any count of the box will do
pub flat_found : (p : Point) (inst : Instance) → unsigned_abs p.slope ≡ 0 → p.clock ≡ inst.clock
    → any_from (facts_inside inst p) p.c0 (suc p.c1 - p.c0) ≡ true → LiesAtSome p inst
flat_found p inst flat same e =
    let any = any_tells (facts_inside inst p) p.c0 (suc p.c1 - p.c0) e in
    record {
      count = any.number;
      at = record {
        first = any.first;
        last = omega (arith, any.first, any.last);
        clock = no_slope p.slope flat any.number p.clock
            ∙ ap pos same;
      };
      facts = any.holds;
    }

same_pos : (a b : ℕ) → pos a ≡ pos b → a ≡ b
same_pos a b e = cc

pub flat_clock : (p : Point) (inst : Instance) → unsigned_abs p.slope ≡ 0 → LiesAtSome p inst → p.clock ≡ inst.clock
flat_clock p inst flat some =
    same_pos p.clock inst.clock (sym (no_slope p.slope flat some.count p.clock) ∙ some.at.clock)

pub flat_told : (p : Point) (inst : Instance) → LiesAtSome p inst → any_from (facts_inside inst p) p.c0 (suc p.c1 - p.c0) ≡ true
flat_told p inst some =
    any_holds (facts_inside inst p) p.c0 (suc p.c1 - p.c0) some.count some.at.first (omega (arith, some.at.first, some.at.last)) some.facts

-- a clock is reached by steps of a slope at one count at most
pub steps_told : (from to : ℕ) (z : ℤ) (c : ℕ) → 0 < unsigned_abs z → pos from +ℤ z *ℤ pos c ≡ pos to
    → c ≡ abs_diff from to / unsigned_abs z
steps_told from to (pos s) c h e =
    let up : pos (from + s * c) ≡ pos to = ap (λ z. pos from +ℤ z) (sym (pos-*ℤ-pos s c)) ∙ e in
    let sum : from + s * c ≡ to = same_pos (from + s * c) to up in
    let away : abs_diff from to ≡ c * s = (let turn = mul_comm s c in omega (arith, sum, turn)) in
    sym (rw away (mul-div_cancel c h))
steps_told from to (negsuc s) c h e =
    let down : pos from +ℤ neg_ℤ (pos (suc s * c)) ≡ pos to = ap (λ z. pos from +ℤ z) (sym (negsuc-*ℤ-pos s c)) ∙ e in
    let sum : from ≡ to + suc s * c = omega (arith, ints, down) in
    let away : abs_diff from to ≡ c * suc s = (let turn = mul_comm (suc s) c in omega (arith, sum, turn)) in
    sym (rw away (mul-div_cancel c h))

-- so that no other count has it
pub its_count : (p : Point) (inst : Instance) (k : ℕ) → ((c : ℕ) → pos p.clock +ℤ p.slope *ℤ pos c ≡ pos inst.clock → c ≡ k)
    → (some : LiesAtSome p inst) → IsAtCount p inst.clock k × (facts_inside inst p k ≡ true)
its_count p inst k one some =
    let same = one some.count some.at.clock in
    (subst (IsAtCount p inst.clock) same some.at, subst (λ c. facts_inside inst p c ≡ true) same some.facts)
