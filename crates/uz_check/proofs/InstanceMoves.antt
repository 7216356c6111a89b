-- A point without facts of lines has the same instance at each line of one kind, and what lies in it lies there at each.
use Rattle.uz_check.proofs.Common.{and_right, and_parts, length, eqb-true, eq-eqb, ◌≡◌, ℕ, zero, suc, ◌+◌, ◌-◌, ◌<◌, Bool, true, false, not}
use Rattle.uz_check.proofs.Common.{if◌then◌else◌, nat_eq, nat_le, nat_lt, Option, Some, None, List, [], ◌∷◌, map, refl, sym, ◌∙◌, ap, arith}
use Rattle.uz_check.proofs.Common.{ℤ, pos, negsuc, ◌+ℤ◌, ◌*ℤ◌, ◌&&◌, ◌||◌, ⊤, option_and_then, slice_get, list_all, nat_tests, Ends}
use Rattle.uz_check.proofs.Common.{length_of, start_of, level_at, val_of, is_in_box, clock_below, instance_of, instance_at_clock}
use Rattle.uz_check.proofs.Common.{instance_in, instance_at, Val, Schedule, Rest, Point, Instance, Cert, refuse_if, inside, same_bool}
use Rattle.uz_check.proofs.Common.{cells_inside, restored, return_fail, lies_at, any_from, lies_in_point, keeps_by_lines}
use Rattle.uz_check.proofs.Common.{pair_keeps_by_lines, has_no_line, same_spans, same_rest, is_on_line}
use Rattle.uz_check.specs.Folding.{same_ends}
use Rattle.std.proofs.Common.{slice_index_or}
use Rattle.uz_schedule.specs.Instances.{cell_span, pair_of, pairs_of}
use Rattle.uz_schedule.specs.declared.facts.Fact.{Fact}
use Rattle.uz_schedule.specs.declared.facts.Fact.TheVariants.{Line}
use Rattle.uz_schedule.specs.declared.facts.PairFact.{PairFact}
use Rattle.uz_schedule.specs.declared.facts.PairFact.TheVariants.{Any as AnyPair, Line as LinePair}
use Rattle.uz_transfer.specs.declared.fail.Fail.TheVariants.{Clock, Restore}
use Rattle.uz_rules.specs.Successors.{lies_in_box}
use Rattle.uz_check.proofs.StepMoves.{at_line}

-- Tests

pub same_is : (a b : Bool) → same_bool a b ≡ true → a ≡ b
same_is true true h = refl
same_is false false h = refl
same_is a b h = absurd cc

-- Facts

val_same : (l m c : ℕ) (f : Fact) → keeps_by_lines f ≡ true → val_of l c f ≡ val_of m c f
val_same l m c (Line a b) h = absurd cc
val_same l m c f h = refl

facts_same : {A : Type 0} (f g : Fact → A) (fs : List Fact) → ((x : Fact) → keeps_by_lines x ≡ true → f x ≡ g x) → list_all keeps_by_lines
    fs ≡ true → map f fs ≡ map g fs
facts_same f g [] same h = refl
facts_same f g (x ∷ fs) same h =
    let both = and_parts (keeps_by_lines x) (list_all keeps_by_lines fs) h in
    λ i. same x both.0 i ∷ facts_same f g fs same both.1 i

pair_same : (l m c r : ℕ) (regs : List Val) (f : PairFact) → pair_keeps_by_lines f ≡ true → pair_of l c regs r f ≡ pair_of m c regs r f
pair_same l m c r regs (LinePair a b) h = absurd cc
pair_same l m c r regs f h = refl

pair_fact : (fs : List PairFact) (k : ℕ) → list_all pair_keeps_by_lines fs ≡ true → pair_keeps_by_lines (slice_index_or fs k AnyPair) ≡ true
pair_fact [] k h = refl
pair_fact (f ∷ fs) zero h = (and_parts (pair_keeps_by_lines f) (list_all pair_keeps_by_lines fs) h).0
pair_fact (f ∷ fs) (suc k) h = pair_fact fs k (and_parts (pair_keeps_by_lines f) (list_all pair_keeps_by_lines fs) h).1

pairs_same : (l m c : ℕ) (regs : List Val) (fs : List PairFact) → list_all pair_keeps_by_lines fs ≡ true → pairs_of l c regs fs ≡ pairs_of m
    c regs fs
pairs_same l m c regs fs h =
    let same : (r k : ℕ) → pair_of l c regs r (slice_index_or fs k AnyPair) ≡ pair_of m c regs r (slice_index_or fs k AnyPair) = λ r k.
    pair_same l m c r regs (slice_index_or fs k AnyPair) (pair_fact fs k h) in
    λ i. same 26 0 i ∷ same 28 1 i ∷ same 30 2 i ∷ []

-- Instances

abbrev pub moved : ℕ → Option Instance → Option Instance
moved m None = None
moved m (Some inst) = Some (at_line m inst)

-- an instance of which this is known
abbrev with_known : Instance → List Val → List Ends → List Val → List Ends → Instance
with_known inst regs pairs stack cells = record inst {
  regs = regs;
  pairs = pairs;
  stack = record { items = stack };
  cells = record { items = cells };
}

instance_same : (p : Point) (l m c clock level : ℕ) → has_no_line p ≡ true → instance_of p m c clock level ≡ at_line m
    (instance_of p l c clock level)
instance_same p l m c clock level h =
    let a = list_all keeps_by_lines p.regs in
    let b = list_all pair_keeps_by_lines p.pairs in
    let d = list_all keeps_by_lines p.stack.items in
    let e = list_all keeps_by_lines p.cells.items in
    let rest = (and_parts a (b && (d && e)) h).1 in
    let last = (and_parts b (d && e) rest).1 in
    let regs = facts_same (val_of m c) (val_of l c) p.regs (λ f k. val_same m l c f k) (and_parts a (b && (d && e)) h).0 in
    let pairs = pairs_same m l c (map (val_of l c) p.regs) p.pairs (and_parts b (d && e) rest).0 in
    let stack = facts_same (val_of m c) (val_of l c) p.stack.items (λ f k. val_same m l c f k) (and_parts d e last).0 in
    let cells = facts_same (cell_span m c) (cell_span l c) p.cells.items (λ f k. span_same m l f k) (and_parts d e last).1 in
    let there = instance_of p m c clock level in
    let here = instance_of p l c clock level in
    (λ i. with_known there (regs i) (pairs_of m c (regs i) p.pairs) (stack i) (cells i))
    ∙ ap (λ v. with_known there here.regs v here.stack.items here.cells.items) pairs
  where
    span_same : (l m : ℕ) (f : Fact) → keeps_by_lines f ≡ true → cell_span l c f ≡ cell_span m c f
    span_same l m (Line a b) h = absurd cc
    span_same l m f h = refl

-- lines l and m have one length, and one level at each clock
pub record LevelsAlike (s : Schedule) (l m : ℕ) : Type 0 where
  pub lengths : length_of s m ≡ length_of s l
  pub levels : (k : ℕ) → k < length_of s l → level_at s (start_of s l + k) ≡ level_at s (start_of s m + k)

level_moves : (p : Point) (l m c clock : ℕ) (level : Option ℕ) → has_no_line p ≡ true
    → option_and_then (λ v. Some (instance_of p m c clock v)) level ≡ moved m (option_and_then (λ v. Some (instance_of p l c clock v))
    level)
level_moves p l m c clock None h = refl
level_moves p l m c clock (Some level) h = ap Some (instance_same p l m c clock level h)

clock_moves : (s : Schedule) (p : Point) (l m c : ℕ) (clock : ℤ) → has_no_line p ≡ true → LevelsAlike s l m
    → option_and_then (instance_at_clock s p m c) (clock_below (length_of s l) clock) ≡ moved m
    (option_and_then (instance_at_clock s p l c) (clock_below (length_of s l) clock))
clock_moves s p l m c (negsuc k) h alike = refl
clock_moves s p l m c (pos k) h alike = by_case (nat_lt k (length_of s l)) (λ e. alike.levels k (grind (arith, nat_tests, e)))
  where
    by_case : (b : Bool) → (b ≡ true → level_at s (start_of s l + k) ≡ level_at s (start_of s m + k))
        → option_and_then (instance_at_clock s p m c) (if b then Some k else None) ≡ moved m
        (option_and_then (instance_at_clock s p l c) (if b then Some k else None))
    by_case true e = ap (option_and_then (λ v. Some (instance_of p m c k v))) (sym (e refl)) ∙ level_moves p l m c k
        (level_at s (start_of s l + k)) h
    by_case false e = refl

-- a point's instance at line m is its instance at line l, moved
pub instance_moves : (s : Schedule) (p : Point) (l m c : ℕ) → has_no_line p ≡ true → is_on_line p l ≡ is_on_line p m → LevelsAlike s l m
    → instance_in s p m c ≡ moved m (instance_in s p l c)
instance_moves s p l m c h on alike =
    let counts = nat_le p.c0 c && nat_le c p.c1 in
    let clock = pos p.clock +ℤ p.slope *ℤ pos c in
    ap (λ b. if b && counts then option_and_then (instance_at_clock s p m c) (clock_below (length_of s m) clock) else None) (sym on)
    ∙ (ap (λ n. if is_on_line p l && counts then option_and_then (instance_at_clock s p m c) (clock_below n clock) else None) alike.lengths
    ∙ by_case (is_on_line p l && counts) (option_and_then (instance_at_clock s p m c) (clock_below (length_of s l) clock))
    (option_and_then (instance_at_clock s p l c) (clock_below (length_of s l) clock)) (clock_moves s p l m c clock h alike))
  where
    by_case : (b : Bool) (x y : Option Instance) → x ≡ moved m y → (if b then x else None) ≡ moved m (if b then y else None)
    by_case true x y e = e
    by_case false x y e = refl

-- an instance is at its line, and its clock is one of it
abbrev pub IsAt : Schedule → ℕ → Option Instance → Type 0
IsAt s l None = ⊤
IsAt s l (Some inst) = (inst.line ≡ l) × (inst.clock < length_of s l)

pub instance_is_at : (s : Schedule) (p : Point) (l c : ℕ) → IsAt s l (instance_in s p l c)
instance_is_at s p l c = by_case (is_in_box p l c) (pos p.clock +ℤ p.slope *ℤ pos c)
  where
    leveled : (k : ℕ) (level : Option ℕ) → k < length_of s l → IsAt s l (option_and_then (λ v. Some (instance_of p l c k v)) level)
    leveled k None h = tt
    leveled k (Some level) h = (refl, h)

    clocked : (k : ℕ) (b : Bool) → (b ≡ true → k < length_of s l)
        → IsAt s l (option_and_then (instance_at_clock s p l c) (if b then Some k else None))
    clocked k true e = leveled k (level_at s (start_of s l + k)) (e refl)
    clocked k false e = tt

    by_case : (b : Bool) (clock : ℤ) → IsAt s l (if b then option_and_then (instance_at_clock s p l c) (clock_below (length_of s l) clock)
        else None)
    by_case true (negsuc k) = tt
    by_case true (pos k) = clocked k (nat_lt k (length_of s l)) (λ e. grind (arith, nat_tests, e))
    by_case false clock = tt

-- Lies in

inside_moves : (a b : ℕ) (r x : Instance) → inside (at_line a r) (at_line a x) ≡ inside (at_line b r) (at_line b x)
inside_moves a b r x = rw (eq-eqb a a refl, eq-eqb b b refl) refl

lies_at_moves : (s : Schedule) (a b : ℕ) (r : Instance) (inst : Option Instance) → IsAt s a inst → lies_at inst (at_line a r) ≡ lies_at
    (moved b inst) (at_line b r)
lies_at_moves s a b r None is = refl
lies_at_moves s a b r (Some x) is = ap (λ n. inside (at_line a r) (at_line n x)) is.0 ∙ inside_moves a b r x

any_same : (f g : ℕ → Bool) (k n : ℕ) → ((c : ℕ) → f c ≡ g c) → any_from f k n ≡ any_from g k n
unfolding any_from
any_same f g k zero same = refl
any_same f g k (suc n) same = λ i. same k i || any_same f g (suc k) n same i

-- the instances of a point by number
pub by_number : (cert : Cert) (id l c : ℕ) (p : Point) → slice_get cert.points id ≡ Some p → instance_at cert id l c ≡ instance_in
    cert.schedule p l c
by_number cert id l c p is = ap (option_and_then (λ q. instance_in cert.schedule q l c)) is

pub lies_moves : (cert : Cert) (id : ℕ) (p : Point) (a b : ℕ) (r : Instance) → slice_get cert.points id ≡ Some p → has_no_line p ≡ true
    → is_on_line p a ≡ is_on_line p b → LevelsAlike cert.schedule a b
    → lies_in_point cert id (at_line a r) ≡ lies_in_point cert id (at_line b r)
lies_moves cert id p a b r is h on alike =
    let s = cert.schedule in
    ap (λ o. lies_in_box cert id o (at_line a r)) is
    ∙ (any_same (λ c. lies_at (instance_at cert id a c) (at_line a r)) (λ c. lies_at (instance_at cert id b c) (at_line b r)) p.c0
    (suc p.c1 - p.c0)
    (λ c. ap (λ o. lies_at o (at_line a r)) (by_number cert id a c p is)
    ∙ (lies_at_moves s a b r (instance_in s p a c) (instance_is_at s p a c)
    ∙ (ap (λ o. lies_at o (at_line b r)) (sym (instance_moves s p a b c h on alike)) ∙ ap (λ o. lies_at o (at_line b r))
    (sym (by_number cert id b c p is)))))
    ∙ ap (λ o. lies_in_box cert id o (at_line b r)) (sym is))

-- Rests

ends_are : (a b : Ends) → same_ends a b ≡ true → a ≡ b
ends_are a b h =
    let both = and_parts (nat_eq a.lo b.lo) (nat_eq a.hi b.hi) h in
    λ i. record { lo = eqb-true a.lo b.lo both.0 i; hi = eqb-true a.hi b.hi both.1 i }

spans_are : (xs ys : List Ends) → same_spans xs ys ≡ true → xs ≡ ys
spans_are [] [] h = refl
spans_are (x ∷ xs) (y ∷ ys) h =
    let both = and_parts (same_ends x y) (same_spans xs ys) h in
    λ i. ends_are x y both.0 i ∷ spans_are xs ys both.1 i
spans_are xs ys h = absurd cc

pub lengths_differ : (xs ys : List Ends) → (length xs ≡ length ys → ⊥) → same_spans xs ys ≡ false
lengths_differ [] [] h = absurd (h refl)
lengths_differ (x ∷ xs) (y ∷ ys) h = ap (λ b. same_ends x y && b) (lengths_differ xs ys (λ e. h (omega (arith, e))))
    ∙ and_right (same_ends x y) false refl
lengths_differ xs ys h = refl

pub return_moves : (a b : Option Rest) (r : Instance) (m : ℕ) → same_rest a b ≡ true → return_fail a r ≡ return_fail b (at_line m r)
return_moves None None r m h = refl
return_moves (Some a) (Some b) r m h =
    let both = and_parts (nat_eq a.clock b.clock) (same_spans a.cells.items b.cells.items) h in
    let clock = eqb-true a.clock b.clock both.0 in
    let cells = spans_are a.cells.items b.cells.items both.1 in
    λ i. refuse_if (not (nat_eq r.clock (clock i))) Clock (refuse_if (not (restored r && cells_inside r.cells.items (cells i))) Restore
    None)
return_moves a b r m h = absurd cc
