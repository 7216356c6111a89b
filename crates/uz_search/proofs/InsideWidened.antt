-- An instance lies in what widening makes of it.
use Rattle.uz_search.proofs.Common.{◌≡◌, ℕ, zero, suc, ◌≤◌, List, [], ◌∷◌, Bool, true, false, not, ◌&&◌, nat_le, nat_lt, refl, ap, ◌∙◌}
use Rattle.uz_search.proofs.Common.{slice_set, slice_index_or, if◌then◌else◌, arith, ◌+◌, max, ⊤, and_parts, eq-eqb, nat_tests, Ends}
use Rattle.uz_search.proofs.Common.{is_within, whole_byte, whole_pair, Val, Range, Old, OldFlags, Instance, range_inside, pair_at, value_at}
use Rattle.uz_search.proofs.Common.{all_below, cells_inside, inside, KnownInItself, PlaceHolds, Program, Widening, Register, Pair, is_whole}
use Rattle.uz_search.proofs.Common.{widened_all, widened_by, widened_pair, widened_value, loosened, loosened_pair, loosened_register}
use Rattle.uz_search.proofs.Common.{loosened_value, facts_at, widened}
use Rattle.uz_rules.specs.Inside.{compared_inside, flags_inside, pairs_inside}
use Rattle.uz_rules.specs.Inside.{registers_inside, place_of_itself, same_place, slots_inside, value_inside}
use Rattle.uz_search.proofs.Lists.{choose}
use Rattle.uz_search.proofs.WidenedLaws.{LeavesRest, widened_rest}

-- Values

abbrev pub Grows : Val → Val → Type 0
Grows (Range a) (Range b) = (b.lo ≤ a.lo) × (a.hi ≤ b.hi)
Grows (Old r) (Old s) = r ≡ s
Grows OldFlags OldFlags = ⊤
Grows a b = ⊥

pub grows_self : (v : Val) → Grows v v
grows_self (Range e) = (omega arith, omega arith)
grows_self (Old r) = refl
grows_self OldFlags = tt

grows_then : (u v w : Val) → Grows u v → Grows v w → Grows u w
grows_then (Range a) (Range b) (Range c) h k = (omega (arith, h.0, k.0), omega (arith, h.1, k.1))
grows_then (Old r) (Old s) (Old t) h k = h ∙ k
grows_then OldFlags OldFlags OldFlags h k = tt
grows_then (Range a) (Range b) (Old c) h k = absurd k
grows_then (Range a) (Range b) OldFlags h k = absurd k
grows_then (Range a) (Old b) w h k = absurd h
grows_then (Range a) OldFlags w h k = absurd h
grows_then (Old r) (Range b) w h k = absurd h
grows_then (Old r) OldFlags w h k = absurd h
grows_then (Old r) (Old s) (Range c) h k = absurd k
grows_then (Old r) (Old s) OldFlags h k = absurd k
grows_then OldFlags (Range b) w h k = absurd h
grows_then OldFlags (Old b) w h k = absurd h
grows_then OldFlags OldFlags (Range c) h k = absurd k
grows_then OldFlags OldFlags (Old c) h k = absurd k

le_max : (a b : ℕ) → a ≤ max a b
le_max a b = omega arith

le_test : (a b : ℕ) → a ≤ b → nat_le a b ≡ true
le_test a b h = grind (arith, nat_tests)

range_grown : (a b : Ends) → b.lo ≤ a.lo → a.hi ≤ b.hi → range_inside a b ≡ true
range_grown a b low high = λ i. le_test b.lo a.lo low i && le_test a.hi b.hi high i

grows_inside : (v w : Val) → Grows v w → value_inside v w ≡ true
grows_inside (Range a) (Range b) h = range_grown a b h.0 h.1
grows_inside (Old r) (Old s) h = eq-eqb r s h
grows_inside OldFlags OldFlags h = refl
grows_inside (Range a) (Old b) h = absurd h
grows_inside (Range a) OldFlags h = absurd h
grows_inside (Old r) (Range b) h = absurd h
grows_inside (Old r) OldFlags h = absurd h
grows_inside OldFlags (Range b) h = absurd h
grows_inside OldFlags (Old b) h = absurd h

value_grows : (fact : Ends) (v : Val) → Grows v (widened_value fact v)
value_grows fact (Old r) = refl
value_grows fact OldFlags = tt
value_grows fact (Range e) = by (is_within e fact) refl
  where
    by : (b : Bool) → is_within e fact ≡ b → Grows (Range e) (if b then Range fact else Range e)
    by true is = (grind (arith, nat_tests), grind (arith, nat_tests))
    by false is = (omega arith, omega arith)

set_grows : (regs : List Val) (r j : ℕ) (w : Val) → Grows (value_at regs r) w → Grows (value_at regs j) (value_at (slice_set regs r w) j)
set_grows [] r j w h = grows_self (value_at [] j)
set_grows (v ∷ vs) zero zero w h = h
set_grows (v ∷ vs) zero (suc j) w h = grows_self (value_at vs j)
set_grows (v ∷ vs) (suc r) zero w h = grows_self v
set_grows (v ∷ vs) (suc r) (suc j) w h = set_grows vs r j w h

-- Pairs

abbrev pub Spreads : Ends → Ends → Type 0
Spreads a b = (b.lo ≤ a.lo) × (a.hi ≤ b.hi)

pub spreads_self : (e : Ends) → Spreads e e
spreads_self e = (omega arith, omega arith)

pair_spreads : (fact e : Ends) → Spreads e (widened_pair fact e)
pair_spreads fact e = by (is_whole fact) (is_within e fact) refl
  where
    by : (a b : Bool) → is_within e fact ≡ b → Spreads e (if not a && b then fact else e)
    by true b is = spreads_self e
    by false false is = spreads_self e
    by false true is = (grind (arith, nat_tests), grind (arith, nat_tests))

set_spreads : (pairs : List Ends) (n j : ℕ) (w : Ends) → Spreads (pair_at pairs n) w → Spreads (pair_at pairs j)
    (pair_at (slice_set pairs n w) j)
set_spreads [] n j w h = spreads_self (pair_at [] j)
set_spreads (v ∷ vs) zero zero w h = h
set_spreads (v ∷ vs) zero (suc j) w h = spreads_self (pair_at vs j)
set_spreads (v ∷ vs) (suc n) zero w h = spreads_self v
set_spreads (v ∷ vs) (suc n) (suc j) w h = set_spreads vs n j w h

-- Facts

pub record Wider (x y : Instance) : Type 0 where
  pub registers : (j : ℕ) → Grows (value_at x.regs j) (value_at y.regs j)
  pub pairs : (j : ℕ) → Spreads (pair_at x.pairs j) (pair_at y.pairs j)

wider_self : (x : Instance) → Wider x x
wider_self x = record { registers = λ j. grows_self (value_at x.regs j); pairs = λ j. spreads_self (pair_at x.pairs j) }

fact_wider : (fact : Widening) (x : Instance) → Wider x (widened_by fact x)
unfolding widened_by
fact_wider (Register r fact) x = choose (Wider x) (nat_lt r 32)
    (record x { regs = slice_set x.regs r (widened_value fact (slice_index_or x.regs r (Range whole_byte))) }) x
    (record {
      registers = λ j. set_grows x.regs r j (widened_value fact (slice_index_or x.regs r (Range whole_byte)))
          (value_grows fact (slice_index_or x.regs r (Range whole_byte)));
      pairs = λ j. spreads_self (pair_at x.pairs j);
    })
    (wider_self x)
fact_wider (Pair n fact) x = choose (Wider x) (nat_lt n 3)
    (record x { pairs = slice_set x.pairs n (widened_pair fact (slice_index_or x.pairs n whole_pair)) }) x
    (record {
      registers = λ j. grows_self (value_at x.regs j);
      pairs = λ j. set_spreads x.pairs n j (widened_pair fact (slice_index_or x.pairs n whole_pair))
          (pair_spreads fact (slice_index_or x.pairs n whole_pair));
    })
    (wider_self x)

pub wider_then : (x y z : Instance) → Wider x y → Wider y z → Wider x z
wider_then x y z one all = record {
  registers = λ j. grows_then (value_at x.regs j) (value_at y.regs j) (value_at z.regs j) (one.registers j) (all.registers j);
  pairs = λ j. let a = one.pairs j in let b = all.pairs j in (omega (arith, a.0, b.0), omega (arith, a.1, b.1));
}

facts_wider : (facts : List Widening) (x : Instance) → Wider x (widened_all facts x)
facts_wider [] x = wider_self x
facts_wider (fact ∷ facts) x = wider_then x (widened_by fact x) (widened_all facts (widened_by fact x)) (fact_wider fact x)
    (facts_wider facts (widened_by fact x))

-- Loosening

loose_grows : (v : Val) → Grows v (loosened_value v)
loose_grows (Range e) = (omega arith, le_max e.hi 255)
loose_grows (Old r) = refl
loose_grows OldFlags = tt

-- each register grows
abbrev AllGrow : List Val → List Val → Type 0
AllGrow a b = (j : ℕ) → Grows (value_at a j) (value_at b j)

all_then : (a b c : List Val) → AllGrow a b → AllGrow b c → AllGrow a c
all_then a b c h k j = grows_then (value_at a j) (value_at b j) (value_at c j) (h j) (k j)

register_loose : (r : ℕ) (regs : List Val) → AllGrow regs (loosened_register r regs)
register_loose r regs j = set_grows regs r j (loosened_value (value_at regs r)) (loose_grows (value_at regs r))

pair_loose : (pair : Ends) (d : ℕ) (regs : List Val) → AllGrow regs (loosened_pair pair d regs)
pair_loose pair d regs = choose (AllGrow regs) (is_whole pair) (loosened_register (d + 1) (loosened_register d regs)) regs
    (all_then regs (loosened_register d regs) (loosened_register (d + 1) (loosened_register d regs)) (register_loose d regs)
    (register_loose (d + 1) (loosened_register d regs)))
    (λ j. grows_self (value_at regs j))

loosened_wider : (x : Instance) → Wider x (loosened x)
loosened_wider x = record {
  registers = all_then x.regs two (loosened x).regs
      (all_then x.regs one two (pair_loose (pair_at x.pairs 0) 26 x.regs) (pair_loose (pair_at x.pairs 1) 28 one))
      (pair_loose (pair_at x.pairs 2) 30 two);
  pairs = λ j. spreads_self (pair_at x.pairs j);
}
  where
    one : List Val
    one = loosened_pair (pair_at x.pairs 0) 26 x.regs

    two : List Val
    two = loosened_pair (pair_at x.pairs 1) 28 one

pub widened_wider : (p : Program) (x : Instance) → Wider x (widened p x)
unfolding widened
widened_wider p x = wider_then x (loosened x) (widened p x) (loosened_wider x) (facts_wider (facts_at p x.pc) (loosened x))

-- The test

below_all : (n : ℕ) (test : ℕ → Bool) → ((k : ℕ) → test k ≡ true) → all_below n test ≡ true
unfolding all_below
below_all zero test all = refl
below_all (suc n) test all = λ i. below_all n test all i && all n i

-- what is known in an instance lies in it, part by part
record InItself (x : Instance) : Type 0 where
  temp : range_inside x.temp x.temp ≡ true
  slots : slots_inside x.stack.items x.stack.items ≡ true
  cells : cells_inside x.cells.items x.cells.items ≡ true
  flags : flags_inside x.flags x.flags ≡ true
  compared : compared_inside x.compared x.compared ≡ true

in_itself : KnownInItself → (x : Instance) → InItself x
in_itself itself x =
    let one = and_parts (range_inside x.temp x.temp) _ (itself x) in
    let two = and_parts (slots_inside x.stack.items x.stack.items) _ one.1 in
    let three = and_parts (cells_inside x.cells.items x.cells.items) _ two.1 in
    let four = and_parts (flags_inside x.flags x.flags) _ three.1 in
    let five = and_parts (compared_inside x.compared x.compared) _ four.1 in
    record { temp = one.0; slots = two.0; cells = three.0; flags = four.0; compared = five.0 }

-- an instance lies in one that has wider registers and pairs, and is the same else
pub inside_wider : PlaceHolds → KnownInItself → (x y : Instance) → LeavesRest y x → Wider x y → inside x y ≡ true
inside_wider holds itself x y same wide =
    let known = in_itself itself x in
    let temp : range_inside x.temp y.temp ≡ true = ap (λ (z : Instance). range_inside x.temp z.temp) same ∙ known.temp in
    let slots : slots_inside x.stack.items y.stack.items ≡ true =
    ap (λ (z : Instance). slots_inside x.stack.items z.stack.items) same ∙ known.slots in
    let cells : cells_inside x.cells.items y.cells.items ≡ true =
    ap (λ (z : Instance). cells_inside x.cells.items z.cells.items) same ∙ known.cells in
    let flags : flags_inside x.flags y.flags ≡ true = ap (λ (z : Instance). flags_inside x.flags z.flags) same ∙ known.flags in
    let compared : compared_inside x.compared y.compared ≡ true =
    ap (λ (z : Instance). compared_inside x.compared z.compared) same ∙ known.compared in
    λ i. place i && (temp i && (slots i && (cells i && (flags i && (compared i && (pairs i && registers i))))))
  where
    place : same_place x y ≡ true
    place = ap (same_place x) same ∙ holds x x (place_of_itself x)

    pairs : pairs_inside x.pairs y.pairs ≡ true
    pairs = below_all 3 (λ k. range_inside (pair_at x.pairs k) (pair_at y.pairs k)) (λ k. let h = wide.pairs k in
        range_grown (pair_at x.pairs k) (pair_at y.pairs k) h.0 h.1)

    registers : registers_inside x.regs y.regs ≡ true
    registers = below_all 32 (λ r. value_inside (value_at x.regs r) (value_at y.regs r))
        (λ r. grows_inside (value_at x.regs r) (value_at y.regs r) (wide.registers r))

pub inside_widened : PlaceHolds → KnownInItself → (p : Program) (x : Instance) → inside x (widened p x) ≡ true
inside_widened holds itself p x = inside_wider holds itself x (widened p x) (widened_rest p x) (widened_wider p x)
