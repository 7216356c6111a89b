-- What a point says where it stands is the instance that it is made of.
use Rattle.std.proofs.Common.{◌≡◌, ◌∙◌, sym, ap, refl, arith, ℕ, zero, suc, ◌+◌, ◌*◌, ◌%◌, ◌<◌, ◌≤◌, Bool, true, false, List, [], ◌∷◌, map}
use Rattle.std.proofs.Common.{length, if◌then◌else◌}
use Rattle.std.specs.Prelude.{Option, Some, None, ◌&&◌, nat_eq, nat_le, nat_lt, option_and_then, slice_get, slice_index_or, ℤ, pos, ◌+ℤ◌}
use Rattle.std.specs.Prelude.{◌*ℤ◌}
use Rattle.std.proofs.Math.Nat.{mod-eq_of_lt}
use Rattle.std.proofs.lemmas.Bool.Decides.{nat_tests}
use Rattle.std.proofs.lemmas.Bool.{and_parts}
use Rattle.uz_schedule.specs.Ends.{Ends, one_number, whole_byte, whole_pair}
use Rattle.uz_schedule.specs.Instances.{cell_span, clock_below, hull_at, handler_entry, span_of_val, instance_at, instance_at_clock}
use Rattle.uz_schedule.specs.Instances.{instance_in, instance_of, is_in_box, old_from, pair_of, pairs_of, val_of}
use Rattle.uz_schedule.specs.Schedule.{length_of, level_at, start_of}
use Rattle.uz_schedule.specs.WellFormed.{is_carry_and_zero_default}
use Rattle.uz_schedule.specs.declared.certificate.Cert.{Cert}
use Rattle.uz_schedule.specs.declared.facts.Bit.{Bit}
use Rattle.uz_schedule.specs.declared.facts.Fact.TheVariants.{Any, Between}
use Rattle.uz_schedule.specs.declared.facts.PairFact.TheVariants.{Any as AnyPair, Between as BetweenPair, Loop as LoopPair}
use Rattle.uz_schedule.specs.declared.facts.Val.{Val}
use Rattle.uz_schedule.specs.declared.facts.Val.TheVariants.{Range, Old, OldFlags}
use Rattle.uz_schedule.specs.declared.kinds.Kind.{Kind}
use Rattle.uz_schedule.specs.declared.states.Instance.{Instance}
use Rattle.uz_schedule.specs.declared.states.Point.{Point}
use Rattle.uz_join.specs.Points.{byte_fact, fact_of, old_facts, pair_fact, pair_facts, point_of, range_fact, same_ends, vector_point}

-- Facts

pub ends_same : (a b : Ends) → a.lo ≡ b.lo → a.hi ≡ b.hi → a ≡ b
ends_same a b lo hi = λ i. record { lo = lo i; hi = hi i }

pub eq_of : (a b : ℕ) → nat_eq a b ≡ true → a ≡ b
eq_of a b e = grind (arith, nat_tests)

byte_back : (l c : ℕ) (e : Ends) → val_of l c (byte_fact e) ≡ Range e
byte_back l c e = by (nat_eq e.lo 0 && nat_eq e.hi 255) refl
  where
    by : (b : Bool) → (nat_eq e.lo 0 && nat_eq e.hi 255) ≡ b → val_of l c (if b then Any else Between e) ≡ Range e
    by true is =
        let parts = and_parts (nat_eq e.lo 0) (nat_eq e.hi 255) is in
        ap (λ r. Range r) (ends_same whole_byte e (sym (eq_of e.lo 0 parts.0)) (sym (eq_of e.hi 255 parts.1)))
    by false is = refl

val_back : (l c : ℕ) (v : Val) → val_of l c (fact_of v) ≡ v
val_back l c (Range e) = byte_back l c e
val_back l c (Old r) = refl
val_back l c OldFlags = refl

vals_back : (l c : ℕ) (vals : List Val) → map (val_of l c) (map fact_of vals) ≡ vals
vals_back l c [] = refl
vals_back l c (v ∷ vs) = λ i. val_back l c v i ∷ vals_back l c vs i

cell_back : (l c : ℕ) (e : Ends) → cell_span l c (byte_fact e) ≡ e
cell_back l c e = ap span_of_val (byte_back l c e)

cells_back : (l c : ℕ) (cells : List Ends) → map (cell_span l c) (map byte_fact cells) ≡ cells
cells_back l c [] = refl
cells_back l c (e ∷ es) = λ i. cell_back l c e i ∷ cells_back l c es i

range_back : (ambiguous : Bool) (l : ℕ) (regs : List Val) (r : ℕ) (e : Ends) → pair_of l 0 regs r (range_fact ambiguous e) ≡ e
range_back ambiguous l regs r e = by (ambiguous && (nat_eq e.lo e.hi && nat_lt e.hi 2)) refl
  where
    by : (b : Bool) → (ambiguous && (nat_eq e.lo e.hi && nat_lt e.hi 2)) ≡ b → pair_of l 0 regs r
        (if b then LoopPair 1 e.lo else BetweenPair e) ≡ e
    by true is =
        let small = and_parts (nat_eq e.lo e.hi) (nat_lt e.hi 2) (and_parts ambiguous (nat_eq e.lo e.hi && nat_lt e.hi 2) is).1 in
        let same : e.lo ≡ e.hi = eq_of e.lo e.hi small.0 in
        let few : e.hi < 2 = grind (arith, nat_tests, small) in
        let value : (1 * 0 + e.lo) % 65536 ≡ e.lo = mod-eq_of_lt (omega arith) ∙ omega arith in
        ends_same (one_number ((1 * 0 + e.lo) % 65536)) e value (value ∙ same)
    by false is = refl

pair_back : (ambiguous : Bool) (l : ℕ) (regs : List Val) (r : ℕ) (e : Ends) → pair_of l 0 regs r (pair_fact ambiguous (hull_at regs r) e)
    ≡ e
pair_back ambiguous l regs r e = by (same_ends e (hull_at regs r)) refl
  where
    by : (b : Bool) → same_ends e (hull_at regs r) ≡ b → pair_of l 0 regs r (if b then AnyPair else range_fact ambiguous e) ≡ e
    by true is =
        let parts = and_parts (nat_eq e.lo (hull_at regs r).lo) (nat_eq e.hi (hull_at regs r).hi) is in
        sym (ends_same e (hull_at regs r) (eq_of e.lo (hull_at regs r).lo parts.0) (eq_of e.hi (hull_at regs r).hi parts.1))
    by false is = range_back ambiguous l regs r e

three_of : {A : Type 0} (xs : List A) (d : A) → length xs ≡ 3 → slice_index_or xs 0 d ∷ slice_index_or xs 1 d ∷ slice_index_or xs 2
    d ∷ [] ≡ xs
three_of [] d h = absurd (omega arith)
three_of (a ∷ []) d h = absurd (omega arith)
three_of (a ∷ b ∷ []) d h = absurd (omega arith)
three_of (a ∷ b ∷ c ∷ []) d h = refl
three_of (a ∷ b ∷ c ∷ e ∷ xs) d h = absurd (omega arith)

pairs_back : (kind : Kind) (l : ℕ) (regs : List Val) (pairs : List Ends) (flags : List Bit) → length pairs ≡ 3 → pairs_of l 0 regs
    (pair_facts kind regs pairs flags) ≡ pairs
pairs_back kind l regs pairs flags three =
    (λ i. pair_back false l regs 26 (slice_index_or pairs 0 whole_pair) i ∷ pair_back false l regs 28 (slice_index_or pairs 1 whole_pair)
    i ∷ pair_back (is_carry_and_zero_default kind flags) l regs 30 (slice_index_or pairs 2 whole_pair) i ∷ [])
    ∙ three_of pairs whole_pair three

olds_back : (l c k n : ℕ) → map (val_of l c) (old_facts k n) ≡ old_from k n
olds_back l c k zero = refl
olds_back l c k (suc n) = ap (λ vs. Old k ∷ vs) (olds_back l c (suc k) n)

-- Clocks

below : (length k : ℕ) (z : ℤ) → z ≡ pos k → k < length → clock_below length z ≡ Some k
below length k z is less = ap (clock_below length) is ∙ ap (λ b. if b then Some k else None) (less_true k length less)
  where
    less_true : (a b : ℕ) → a < b → nat_lt a b ≡ true
    less_true a b h = grind (arith, nat_tests)

le_true : (a b : ℕ) → a ≤ b → nat_le a b ≡ true
le_true a b h = grind (arith, nat_tests)

box_true : (a b c d : Bool) → a ≡ true → b ≡ true → c ≡ true → d ≡ true → ((a && b) && (c && d)) ≡ true
box_true a b c d e f g h = λ i. (e i && f i) && (g i && h i)

-- Where points stand

-- at a line and a count of its box, where there is this level at this clock
pub instance_placed : (cert : Cert) (id l c clock level : ℕ) (p : Point) → slice_get cert.points id ≡ Some p → is_in_box p l c ≡ true
    → pos p.clock +ℤ p.slope *ℤ pos c ≡ pos clock → clock < length_of cert.schedule l
    → level_at cert.schedule (start_of cert.schedule l + clock) ≡ Some level → instance_at cert id l c ≡ Some
    (instance_of p l c clock level)
instance_placed cert id l c clock level p at inside is less there =
    ap (λ o. option_and_then (λ q. instance_in cert.schedule q l c) o) at
    ∙ (ap (λ b. if b then option_and_then (instance_at_clock cert.schedule p l c)
    (clock_below (length_of cert.schedule l) (pos p.clock +ℤ p.slope *ℤ pos c)) else None) inside
    ∙ (ap (λ o. option_and_then (instance_at_clock cert.schedule p l c) o)
    (below (length_of cert.schedule l) clock (pos p.clock +ℤ p.slope *ℤ pos c) is less)
    ∙ ap (λ o. option_and_then (λ level. Some (instance_of p l c clock level)) o) there))

own_same : (x : Instance) (next : List ℕ) → length x.pairs ≡ 3 → instance_of (point_of x next) x.line 0 x.clock x.level ≡ x
own_same x next three = λ i. record x {
  regs = vals_back x.line 0 x.regs i;
  pairs = pairs i;
  stack = record { items = vals_back x.line 0 x.stack.items i };
  cells = record { items = cells_back x.line 0 x.cells.items i };
}
  where
    pairs : pairs_of x.line 0 (map (val_of x.line 0) (map fact_of x.regs)) (pair_facts x.kind x.regs x.pairs x.flags) ≡ x.pairs
    pairs = ap (λ regs. pairs_of x.line 0 regs (pair_facts x.kind x.regs x.pairs x.flags)) (vals_back x.line 0 x.regs) ∙ pairs_back x.kind
        x.line x.regs x.pairs x.flags three

-- the point of an instance, at its line, whatever it is split by
pub own_instance : (cert : Cert) (id : ℕ) (x : Instance) (next : List ℕ) (split : Option ℕ)
    → slice_get cert.points id ≡ Some (record (point_of x next) { split = split })
    → length x.pairs ≡ 3 → x.clock < length_of cert.schedule x.line
    → level_at cert.schedule (start_of cert.schedule x.line + x.clock) ≡ Some x.level → instance_at cert id x.line 0 ≡ Some x
own_instance cert id x next split at three less level =
    instance_placed cert id x.line 0 x.clock x.level (record (point_of x next) { split = split }) at
    (box_true (nat_le x.line x.line) (nat_le x.line x.line) (nat_le 0 0) (nat_le 0 0) (le_true x.line x.line (omega arith))
    (le_true x.line x.line (omega arith)) refl refl)
    clock less level
    ∙ ap (λ y. Some y) (own_same x next three)
  where
    clock : pos x.clock +ℤ pos 0 *ℤ pos 0 ≡ pos x.clock
    clock = let same : x.clock + 0 * 0 ≡ x.clock = omega arith in ap pos same

vector_same : (cells : List Ends) (line response c level top : ℕ) (next : List ℕ) → instance_of (vector_point cells line response top next)
    line c (c + response) level ≡ handler_entry cells line (c + response) level top
vector_same cells line response c level top next = λ i. record (handler_entry cells line (c + response) level top) {
  regs = olds_back line c 0 32 i;
  pairs = pairs i;
  cells = record { items = cells_back line c cells i };
}
  where
    pairs : pairs_of line c (map (val_of line c) (old_facts 0 32)) (AnyPair ∷ AnyPair ∷ AnyPair ∷ []) ≡ whole_pair ∷ whole_pair ∷ whole_pair
        ∷ []
    pairs = ap (λ regs. pairs_of line c regs (AnyPair ∷ AnyPair ∷ AnyPair ∷ [])) (olds_back line c 0 32) ∙ refl

-- a vector, at its line and a count from 0 to 3
pub vector_instance : (cert : Cert) (id : ℕ) (cells : List Ends) (line response c level top : ℕ) (next : List ℕ) → slice_get cert.points
    id ≡ Some (vector_point cells line response top next) → c ≤ 3 → c + response < length_of cert.schedule line
    → level_at cert.schedule (start_of cert.schedule line + (c + response)) ≡ Some level → instance_at cert id line c ≡ Some
    (handler_entry cells line (c + response) level top)
vector_instance cert id cells line response c level top next at few less there =
    instance_placed cert id line c (c + response) level (vector_point cells line response top next) at
    (box_true (nat_le line line) (nat_le line line) (nat_le 0 c) (nat_le c 3) (le_true line line (omega arith))
    (le_true line line (omega arith)) (le_true 0 c (omega arith)) (le_true c 3 few))
    clock less there
    ∙ ap (λ y. Some y) (vector_same cells line response c level top next)
  where
    clock : pos response +ℤ pos 1 *ℤ pos c ≡ pos (c + response)
    clock = let same : response + 1 * c ≡ c + response = omega arith in ap pos same
