-- A result passes the local rule where its pieces, as they go on, lie in the named successors: it is covered by the values of the register.
use Rattle.uz_search.proofs.Common.{◌≡◌, ℕ, zero, suc, ◌<◌, ◌≤◌, ◌+◌, ◌-◌, ◌*◌, ◌/◌, List, [], ◌∷◌, ◌++◌, Option, Some, None, Bool, true}
use Rattle.uz_search.proofs.Common.{false, ◌&&◌, ◌||◌, nat_le, nat_lt, refl, sym, ap, subst, ⊎_elim, slice_set, if◌then◌else◌, suc-mul}
use Rattle.uz_search.proofs.Common.{zero-mul, arith, length, min, and_parts, cases_lt, nat_tests, Ends, hull, Cert, Val, Range, Old}
use Rattle.uz_search.proofs.Common.{OldFlags, Instance, byte_hull, known_byte, pair_at, pair_number, span_of, value_at, with_value, inside}
use Rattle.uz_search.proofs.Common.{KnownInItself, PlaceHolds, passes, Program, Among, first_pieces, is_split, piece_from, piece_size}
use Rattle.uz_search.proofs.Common.{pieces_each, pieces_of, widened, same_Some}
use Rattle.std.proofs.Math.Nat.{lt-mul-div-succ}
use Rattle.uz_rules.specs.Cover.{all_from, at_value, covered_by, lies_at_each, most_values}
use Rattle.uz_rules.specs.Successors.{lies_in_any}
use Rattle.uz_search.specs.Complete.{PiecesPass}
use Rattle.uz_search.proofs.InsideWidened.{Grows, Spreads, Wider, grows_self, inside_wider, inside_widened, spreads_self, wider_then}
use Rattle.uz_search.proofs.InsideWidened.{widened_wider}
use Rattle.uz_search.proofs.PiecesLaws.{some_each}
use Rattle.uz_search.proofs.WidenedLaws.{widened_rest}

-- A value and a range that has it

regs_grow : (regs : List Val) (r j : ℕ) (v w : Val) → Grows v w → Grows (value_at (slice_set regs r v) j) (value_at (slice_set regs r w) j)
regs_grow [] r j v w h = grows_self (value_at [] j)
regs_grow (u ∷ us) zero zero v w h = h
regs_grow (u ∷ us) zero (suc j) v w h = grows_self (value_at us j)
regs_grow (u ∷ us) (suc r) zero v w h = grows_self u
regs_grow (u ∷ us) (suc r) (suc j) v w h = regs_grow us r j v w h

pairs_spread : (pairs : List Ends) (n j : ℕ) (a b : Ends) → Spreads a b → Spreads (pair_at (slice_set pairs n a) j)
    (pair_at (slice_set pairs n b) j)
pairs_spread [] n j a b h = spreads_self (pair_at [] j)
pairs_spread (u ∷ us) zero zero a b h = h
pairs_spread (u ∷ us) zero (suc j) a b h = spreads_self (pair_at us j)
pairs_spread (u ∷ us) (suc n) zero a b h = spreads_self u
pairs_spread (u ∷ us) (suc n) (suc j) a b h = pairs_spread us n j a b h

span_spreads : (v w : Val) → Grows v w → Spreads (span_of v) (span_of w)
span_spreads (Range a) (Range b) h = h
span_spreads (Old r) (Old s) h = (omega arith, omega arith)
span_spreads OldFlags OldFlags h = (omega arith, omega arith)
span_spreads (Range a) (Old b) h = absurd h
span_spreads (Range a) OldFlags h = absurd h
span_spreads (Old r) (Range b) h = absurd h
span_spreads (Old r) OldFlags h = absurd h
span_spreads OldFlags (Range b) h = absurd h
span_spreads OldFlags (Old b) h = absurd h

hull_spreads : (a b c d : Ends) → Spreads a c → Spreads b d → Spreads (hull a b) (hull c d)
hull_spreads a b c d h k = (omega (arith, h.0, k.0), omega (arith, h.1, k.1))

values_wider : (r : ℕ) (y : Instance) (v w : Val) → Grows v w → Wider (with_value r v y) (with_value r w y)
values_wider r y v w h = record {
  registers = λ j. regs_grow y.regs r j v w h;
  pairs = λ j. by j (nat_le 26 r);
}
  where
    at : ℕ
    at = 26 + 2 * pair_number r

    hulls : Spreads (byte_hull (slice_set y.regs r v) at) (byte_hull (slice_set y.regs r w) at)
    hulls = hull_spreads (span_of (value_at (slice_set y.regs r v) at)) (span_of (value_at (slice_set y.regs r v) (at + 1)))
        (span_of (value_at (slice_set y.regs r w) at)) (span_of (value_at (slice_set y.regs r w) (at + 1)))
        (span_spreads (value_at (slice_set y.regs r v) at) (value_at (slice_set y.regs r w) at) (regs_grow y.regs r at v w h))
        (span_spreads (value_at (slice_set y.regs r v) (at + 1)) (value_at (slice_set y.regs r w) (at + 1))
        (regs_grow y.regs r (at + 1) v w h))

    by : (j : ℕ) (b : Bool) → Spreads
        (pair_at (if b then slice_set y.pairs (pair_number r) (byte_hull (slice_set y.regs r v) at) else y.pairs) j)
        (pair_at (if b then slice_set y.pairs (pair_number r) (byte_hull (slice_set y.regs r w) at) else y.pairs) j)
    by j true = pairs_spread y.pairs (pair_number r) j (byte_hull (slice_set y.regs r v) at) (byte_hull (slice_set y.regs r w) at) hulls
    by j false = spreads_self (pair_at y.pairs j)

-- Each value stands in a piece

record HasValue (r : ℕ) (e : Ends) (y : Instance) (v : ℕ) (list : List Instance) : Type 0 where
  part : Ends
  there : Among list (with_value r (Range part) y)
  low : part.lo ≤ v
  high : v ≤ part.hi

in_front : {A : Type 0} (xs ys : List A) (x : A) → Among xs x → Among (xs ++ ys) x
in_front [] ys x (i, h) = cc
in_front (z ∷ xs) ys x (zero, h) = (0, h)
in_front (z ∷ xs) ys x (suc i, h) = let later = in_front xs ys x (i, h) in (suc later.0, later.1)

behind : {A : Type 0} (xs ys : List A) (x : A) → Among ys x → Among (xs ++ ys) x
behind [] ys x there = there
behind (z ∷ xs) ys x there = let later = behind xs ys x there in (suc later.0, later.1)

le_test : (a b : ℕ) → a ≤ b → nat_le a b ≡ true
le_test a b h = grind (arith, nat_tests)

in_piece : (most r : ℕ) (e : Ends) (y : Instance) (from v : ℕ) → from ≤ v → v < from + piece_size most e → v ≤ e.hi
    → HasValue r e y v (piece_from most r e y from)
in_piece most r e y from v low below high = record {
  part = end;
  there = subst (λ b. Among (if b then with_value r (Range end) y ∷ [] else []) (with_value r (Range end) y))
      (sym (le_test from e.hi (omega (arith, low, high)))) (0, refl);
  low = low;
  high = omega (arith, high, below);
}
  where
    end : Ends
    end = record { lo = from; hi = min e.hi (from + (e.hi - e.lo) / most) }

has_value : (most r : ℕ) (e : Ends) (y : Instance) (v n : ℕ) → e.lo ≤ v → v ≤ e.hi → v < e.lo + n * piece_size most e
    → HasValue r e y v (first_pieces most r e y n)
unfolding first_pieces
has_value most r e y v zero low high below = absurd (let none = zero-mul (piece_size most e) in omega (arith, low, below, none))
has_value most r e y v (suc n) low high below = ⊎_elim
    (λ (before : v < e.lo + n * piece_size most e). let h = has_value most r e y v n low high before in record {
      part = h.part;
      there = in_front (first_pieces most r e y n) (piece_from most r e y (e.lo + n * piece_size most e)) (with_value r (Range h.part) y)
          h.there;
      low = h.low;
      high = h.high;
    })
    (λ (from : e.lo + n * piece_size most e ≤ v).
    let h = in_piece most r e y (e.lo + n * piece_size most e) v from
    (let more = suc-mul n (piece_size most e) in omega (arith, below, more)) high in record {
      part = h.part;
      there = behind (first_pieces most r e y n) (piece_from most r e y (e.lo + n * piece_size most e)) (with_value r (Range h.part) y)
          h.there;
      low = h.low;
      high = h.high;
    })
    (cases_lt v (e.lo + n * piece_size most e))

-- the pieces of a result are among those of all
among_each : (most r : ℕ) (results : List Instance) (y z : Instance) → Among results y
    → Among (pieces_of most r (span_of (value_at y.regs r)) y) z → Among (pieces_each most r results) z
among_each most r [] y z (i, h) piece = cc
among_each most r (u ∷ us) y z (zero, h) piece =
    in_front (pieces_of most r (span_of (value_at u.regs r)) u) (pieces_each most r us) z
    (subst (λ (v : Instance). Among (pieces_of most r (span_of (value_at v.regs r)) v) z) (sym (same_Some u y h)) piece)
among_each most r (u ∷ us) y z (suc i, h) piece =
    behind (pieces_of most r (span_of (value_at u.regs r)) u) (pieces_each most r us) z (among_each most r us y z (i, h) piece)

-- The test

all_true : (test : ℕ → Bool) (k n : ℕ) → ((v : ℕ) → k ≤ v → v < k + n → test v ≡ true) → all_from test k n ≡ true
unfolding all_from
all_true test k zero h = refl
all_true test k (suc n) h = λ i. h k (omega arith) (omega arith) i
    && all_true test (suc k) n (λ v low high. h v (omega (arith, low)) (omega (arith, high))) i

or_left : (a b : Bool) → a ≡ true → (a || b) ≡ true
or_left a b h = ap (λ c. c || b) h

or_right : (a b : Bool) → b ≡ true → (a || b) ≡ true
or_right true b h = refl
or_right false b h = h

module _ (holds : PlaceHolds) (itself : KnownInItself) (p : Program) (cert : Cert) (ids : List ℕ) where
  -- an instance lies in what it is widened to, so in the successors
  lies_whole : (y : Instance) → ((w : Instance) → inside w (widened p y) ≡ true → lies_in_any cert ids w ≡ true)
      → (split : Option ℕ) → passes cert ids split (Some y) ≡ true
  lies_whole y h split = or_left (lies_in_any cert ids y) (covered_by cert ids split y) (h y (inside_widened holds itself p y))

  -- with a value in the range of a piece a result lies in what the piece is widened to
  value_inside : (r : ℕ) (y : Instance) (v : ℕ) (part : Ends) → part.lo ≤ v → v ≤ part.hi
      → inside (at_value r v y) (widened p (with_value r (Range part) y)) ≡ true
  value_inside r y v part low high =
      let z : Instance = with_value r (Range part) y in
      inside_wider holds itself (at_value r v y) (widened p z) (widened_rest p z)
      (wider_then (at_value r v y) z (widened p z) (values_wider r y (known_byte v) (Range part) (low, high)) (widened_wider p z))

  covered : (most r : ℕ) (y : Instance) → 0 < most → (nat_lt r 32 && is_split (span_of (value_at y.regs r))) ≡ true
      → ((z w : Instance) → Among (first_pieces most r (span_of (value_at y.regs r)) y most) z → inside w (widened p z) ≡ true
      → lies_in_any cert ids w ≡ true) → covered_by cert ids (Some r) y ≡ true
  covered most r y some is h = λ i. parts.0 i && (few i && each i)
    where
      e : Ends
      e = span_of (value_at y.regs r)

      parts : (nat_lt r 32 ≡ true) × (is_split e ≡ true)
      parts = and_parts (nat_lt r 32) (is_split e) is

      range : (nat_lt e.lo e.hi ≡ true) × (nat_lt (e.hi - e.lo) 64 ≡ true)
      range = and_parts (nat_lt e.lo e.hi) (nat_lt (e.hi - e.lo) 64) parts.1

      few : nat_lt (e.hi - e.lo) most_values ≡ true
      few = range.1

      long : e.hi - e.lo < most * piece_size most e
      long = lt-mul-div-succ (e.hi - e.lo) some

      value : (v : ℕ) → e.lo ≤ v → v < e.lo + (suc e.hi - e.lo) → lies_in_any cert ids (at_value r v y) ≡ true
      value v low high =
          let within : v ≤ e.hi = omega (arith, low, high) in
          let far = long in
          let has = has_value most r e y v most low within (omega (arith, within, far)) in
          h (with_value r (Range has.part) y) (at_value r v y) has.there (value_inside r y v has.part has.low has.high)

      each : lies_at_each cert ids r e y ≡ true
      each = all_true (λ v. lies_in_any cert ids (at_value r v y)) e.lo (suc e.hi - e.lo) value

  -- one result, with its pieces
  result_passes : (most r : ℕ) (y : Instance) → 0 < most
      → ((z w : Instance) → Among (pieces_of most r (span_of (value_at y.regs r)) y) z → inside w (widened p z) ≡ true
      → lies_in_any cert ids w ≡ true) → passes cert ids (Some r) (Some y) ≡ true
  result_passes most r y some = by (nat_lt r 32 && is_split (span_of (value_at y.regs r))) refl
    where
      by : (b : Bool) → (nat_lt r 32 && is_split (span_of (value_at y.regs r))) ≡ b
          → ((z w : Instance) → Among (if b then first_pieces most r (span_of (value_at y.regs r)) y most else y ∷ []) z
          → inside w (widened p z) ≡ true → lies_in_any cert ids w ≡ true) → passes cert ids (Some r) (Some y) ≡ true
      by true is lie = or_right (lies_in_any cert ids y) (covered_by cert ids (Some r) y) (covered most r y some is lie)
      by false is lie = lies_whole y (λ w. lie y w (0, refl)) (Some r)

some_there : (results : List Instance) (y : Instance) → Among results y → 0 < length results
some_there [] y (i, h) = cc
some_there (z ∷ results) y there = omega arith

pub pieces_pass : PlaceHolds → KnownInItself → PiecesPass
pieces_pass holds itself p cert ids None results y few h there = lies_whole holds itself p cert ids y (λ w. h y w there) None
pieces_pass holds itself p cert ids (Some r) results y few h there =
    result_passes holds itself p cert ids (16 / length results) r y (some_each (length results) (some_there results y there) few)
    (λ z w piece. h z w (among_each (16 / length results) r results y z there piece))
