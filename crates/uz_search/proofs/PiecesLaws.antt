-- The pieces in which a result goes on: each is the result with other registers and pairs, and together they have all of its values.
use Rattle.uz_search.proofs.Common.{◌≡◌, ℕ, zero, suc, ◌<◌, ◌≤◌, ◌+◌, ◌-◌, ◌*◌, ◌/◌, List, [], ◌∷◌, ◌++◌, map, Option, Some, None, Bool}
use Rattle.uz_search.proofs.Common.{true, append_assoc, false, ◌&&◌, nat_le, nat_lt, refl, ap, ◌∙◌, subst, ⊎_elim, length, length-append}
use Rattle.uz_search.proofs.Common.{slice_get, slice_set, if◌then◌else◌, suc-mul, arith, min, and_parts, nat_tests, flat_map, Ends, Range}
use Rattle.uz_search.proofs.Common.{Head, Kind, Instance, is_main, byte_hull, pair_number, span_of, value_at, with_value, Next, Program}
use Rattle.uz_search.proofs.Common.{Among, entries, followers_of, split_at, OldFits, first_pieces, is_split, piece_from, piece_size, pieces}
use Rattle.uz_search.proofs.Common.{pieces_each, pieces_of, split_in, widened, same_Some, length-set}
use Rattle.std.proofs.Math.Nat.{div-le_self, mul-div-le}
use Rattle.std.proofs.lemmas.Nat.{le-div}
use Rattle.uz_search.proofs.Known.{each_set}
use Rattle.uz_search.proofs.Lists.{append_cases, choose, of_flat, of_map}
use Rattle.uz_search.proofs.Loosening.{NearlyKnown}
use Rattle.uz_search.proofs.WidenedLaws.{LeavesRest, SamePlace, widened_rest}

-- One piece

pub record IsPiece (y z : Instance) : Type 0 where
  pub rest : LeavesRest z y
  pub nearly : (head : Head) (kind : Kind) → NearlyKnown head kind y → NearlyKnown head kind z

whole_piece : (y : Instance) → IsPiece y y
whole_piece y = record { rest = refl; nearly = λ head kind h. h }

value_piece : (r : ℕ) (e : Ends) (y : Instance) → IsPiece y (with_value r (Range e) y)
value_piece r e y = record {
  rest = refl;
  nearly = λ head kind h. record {
    register_count = length-set y.regs r (Range e) ∙ h.register_count;
    registers = each_set (OldFits kind) y.regs r (Range e) h.registers tt;
    pair_count = choose (λ (l : List Ends). length l ≡ 3) (nat_le 26 r)
        (slice_set y.pairs (pair_number r) (byte_hull (slice_set y.regs r (Range e)) (26 + 2 * pair_number r))) y.pairs
        (length-set y.pairs (pair_number r) (byte_hull (slice_set y.regs r (Range e)) (26 + 2 * pair_number r)) ∙ h.pair_count)
        h.pair_count;
    flag_count = h.flag_count;
    flags = h.flags;
    slots = h.slots;
    stack = h.stack;
    cells = h.cells;
  };
}

from_piece : (most r : ℕ) (e : Ends) (y : Instance) (v : ℕ) (z : Instance) → Among (piece_from most r e y v) z → IsPiece y z
from_piece most r e y v z (i, h) = by (nat_le v e.hi) i h
  where
    end : Ends
    end = record { lo = v; hi = min e.hi (v + (e.hi - e.lo) / most) }

    by : (b : Bool) (i : ℕ) → slice_get (if b then with_value r (Range end) y ∷ [] else []) i ≡ Some z → IsPiece y z
    by true zero h = subst (IsPiece y) (same_Some (with_value r (Range end) y) z h) (value_piece r end y)
    by true (suc i) h = cc
    by false i h = cc

first_are : (most r : ℕ) (e : Ends) (y : Instance) (n : ℕ) (z : Instance) → Among (first_pieces most r e y n) z → IsPiece y z
unfolding first_pieces
first_are most r e y zero z (i, h) = cc
first_are most r e y (suc n) z (i, h) = ⊎_elim
    (λ before. first_are most r e y n z before)
    (λ last. from_piece most r e y (e.lo + n * piece_size most e) z last)
    (append_cases (first_pieces most r e y n) (piece_from most r e y (e.lo + n * piece_size most e)) i z h)

pieces_are : (most r : ℕ) (e : Ends) (y z : Instance) → Among (pieces_of most r e y) z → IsPiece y z
pieces_are most r e y z (i, h) = by (nat_lt r 32 && is_split e) i h
  where
    by : (b : Bool) (i : ℕ) → slice_get (if b then first_pieces most r e y most else y ∷ []) i ≡ Some z → IsPiece y z
    by true i h = first_are most r e y most z (i, h)
    by false zero h = subst (IsPiece y) (same_Some y z h) (whole_piece y)
    by false (suc i) h = cc

-- the result of which it is a piece
pub record PieceOf (results : List Instance) (z : Instance) : Type 0 where
  pub result : Instance
  pub there : Among results result
  pub piece : IsPiece result z

pub piece_of : (split : Option ℕ) (results : List Instance) (z : Instance) → Among (pieces split results) z → PieceOf results z
piece_of None results z there = record { result = z; there = there; piece = whole_piece z }
piece_of (Some r) results z there =
    let most : ℕ = 16 / length results in
    let from = of_flat (λ (y : Instance). pieces_of most r (span_of (value_at y.regs r)) y) results z there in
    record {
      result = from.0;
      there = from.1;
      piece = pieces_are most r (span_of (value_at from.0.regs r)) from.0 z from.2;
    }

-- outside main nothing is split
pub never_split : (p : Program) (x : Instance) → is_main x.kind ≡ false → split_at p x ≡ None
never_split p x apart = ap (λ b. if b then split_in p.splits x.pc else None) apart

-- What follows

-- where no return is, a follower is a result, or a piece of one, widened
pub record FromResult (p : Program) (x : Instance) (next : Next) (y : Instance) : Type 0 where
  pub result : Instance
  pub there : Among next.out.items result
  pub piece : Instance
  pub is_piece : IsPiece result piece
  pub is : widened p piece ≡ y
  -- outside main the result itself
  pub plain : is_main x.kind ≡ false → widened p result ≡ y

pub from_result : (p : Program) (x : Instance) (next : Next) (y : Instance) → next.back ≡ false → Among (followers_of p x next) y
    → FromResult p x next y
unfolding piece_of
from_result p x next y back follows =
    let mapped : Among (map (widened p) (pieces (split_at p x) next.out.items)) y = subst (λ l. Among l y)
    (ap (λ b. if b then flat_map (entries p) next.out.items else map (widened p) (pieces (split_at p x) next.out.items)) back) follows in
    let from = of_map (widened p) (pieces (split_at p x) next.out.items) mapped.0 y mapped.1 in
    let of = piece_of (split_at p x) next.out.items from.0 (mapped.0, from.1) in
    record {
      result = of.result;
      there = of.there;
      piece = from.0;
      is_piece = of.piece;
      is = from.2;
      plain = λ apart. outside (split_at p x) (never_split p x apart) from.0 (mapped.0, from.1) from.2;
    }
  where
    outside : (split : Option ℕ) → split ≡ None → (z : Instance) → (there : Among (pieces split next.out.items) z) → widened p z ≡ y
        → widened p (piece_of split next.out.items z there).result ≡ y
    outside None none z there is = is
    outside (Some r) none z there is = absurd cc

-- it has the result's place, and other registers and pairs alone
pub result_rest : (p : Program) (x : Instance) (next : Next) (y : Instance) (f : FromResult p x next y) → LeavesRest y f.result
result_rest p x next y f = subst (λ (z : Instance). LeavesRest z f.result) f.is
    (widened_rest p f.piece ∙ ap (λ (z : Instance). record z { regs = (widened p f.piece).regs; pairs = (widened p f.piece).pairs })
    f.is_piece.rest)

pub result_place : (p : Program) (x : Instance) (next : Next) (y : Instance) (f : FromResult p x next y) → SamePlace y f.result
result_place p x next y f = place (result_rest p x next y f)
  where
    place : LeavesRest y f.result → SamePlace y f.result
    place is = record {
      kind = ap (λ (z : Instance). z.kind) is;
      pc = ap (λ (z : Instance). z.pc) is;
      line = ap (λ (z : Instance). z.line) is;
      clock = ap (λ (z : Instance). z.clock) is;
      level = ap (λ (z : Instance). z.level) is;
      pending = ap (λ (z : Instance). z.pending) is;
      top = ap (λ (z : Instance). z.top) is;
      temp = ap (λ (z : Instance). z.temp) is;
      flags = ap (λ (z : Instance). z.flags) is;
      compared = ap (λ (z : Instance). z.compared) is;
      stack = ap (λ (z : Instance). z.stack) is;
      cells = ap (λ (z : Instance). z.cells) is;
    }

-- One piece more

pub pieces_more : (most r : ℕ) (e : Ends) (y : Instance) (n from : ℕ) (start old new : List Instance)
    → old ≡ start ++ first_pieces most r e y n → from ≡ e.lo + n * piece_size most e → new ≡ old ++ piece_from most r e y from
    → new ≡ start ++ first_pieces most r e y (n + 1)
unfolding first_pieces
pieces_more most r e y n from start old new before at more =
    more ∙ ap (λ l. l ++ piece_from most r e y from) before
    ∙ append_assoc start (first_pieces most r e y n) (piece_from most r e y from)
    ∙ ap (λ f. start ++ (first_pieces most r e y n ++ piece_from most r e y f)) at
    ∙ ap (λ k. start ++ first_pieces most r e y k) (let next : suc n ≡ n + 1 = omega arith in next)

pub from_more : (most : ℕ) (e : Ends) (n from size : ℕ) → from ≡ e.lo + n * piece_size most e → size ≡ piece_size most e
    → from + size ≡ e.lo + (n + 1) * piece_size most e
from_more most e n from size at is =
    let next : (n + 1) * piece_size most e ≡ suc n * piece_size most e = ap (λ k. k * piece_size most e) (omega arith) in
    let more = suc-mul n (piece_size most e) in
    omega (arith, at, is, next, more)

-- a piece has no more values than the range
pub few_more : (most : ℕ) (e : Ends) (n from size : ℕ) → is_split e ≡ true → size ≡ piece_size most e → from ≤ e.lo + 64 * n
    → from + size ≤ e.lo + 64 * (n + 1)
few_more most e n from size split is few =
    let part = (and_parts (nat_lt e.lo e.hi) (nat_lt (e.hi - e.lo) 64) split).1 in
    let below : e.hi - e.lo < 64 = grind (arith, nat_tests) in
    let short = div-le_self (e.hi - e.lo) most in
    omega (arith, few, is, below, short)

-- How many there are

piece_few : (most r : ℕ) (e : Ends) (y : Instance) (v : ℕ) → length (piece_from most r e y v) ≤ 1
piece_few most r e y v = choose (λ (l : List Instance). length l ≤ 1) (nat_le v e.hi) _ [] (omega arith) (omega arith)

pub room_more : (most r : ℕ) (e : Ends) (y : Instance) (n from room : ℕ) (old new : List Instance) → length old ≤ room + n
    → new ≡ old ++ piece_from most r e y from → length new ≤ room + (n + 1)
room_more most r e y n from room old new few more =
    let one = piece_few most r e y from in
    let sum = ap length more ∙ length-append old (piece_from most r e y from) in
    omega (arith, few, one, sum)

first_few : (most r : ℕ) (e : Ends) (y : Instance) (n : ℕ) → length (first_pieces most r e y n) ≤ n
unfolding first_pieces
first_few most r e y zero = omega arith
first_few most r e y (suc n) =
    let before = first_few most r e y n in
    let one = piece_few most r e y (e.lo + n * piece_size most e) in
    let sum = length-append (first_pieces most r e y n) (piece_from most r e y (e.lo + n * piece_size most e)) in
    omega (arith, before, one, sum)

pub pieces_few : (most r : ℕ) (e : Ends) (y : Instance) → 0 < most → length (pieces_of most r e y) ≤ most
pieces_few most r e y some = choose (λ (l : List Instance). length l ≤ most) (nat_lt r 32 && is_split e) (first_pieces most r e y most)
    (y ∷ []) (first_few most r e y most) (omega (arith, some))

each_few : (most r : ℕ) (results : List Instance) → 0 < most → length (pieces_each most r results) ≤ length results * most
each_few most r [] some = omega arith
each_few most r (y ∷ results) some =
    let first = pieces_few most r (span_of (value_at y.regs r)) y some in
    let others = each_few most r results some in
    let sum = length-append (pieces_of most r (span_of (value_at y.regs r)) y) (pieces_each most r results) in
    let more = suc-mul (length results) most in
    omega (arith, first, others, sum, more)

-- of up to 16 results each goes on in a piece, and all of them in 16 at most
pub some_each : (n : ℕ) → 0 < n → n ≤ 16 → 0 < 16 / n
some_each n some few = le-div 1 16 n some (omega (arith, few))

pub room_each : (n : ℕ) → n * (16 / n) ≤ 16
room_each n = mul-div-le 16 n

pub few_pieces : (split : Option ℕ) (results : List Instance) → length results ≤ 16 → length (pieces split results) ≤ 16
few_pieces None results few = few
few_pieces (Some r) [] few = omega arith
few_pieces (Some r) (y ∷ results) few =
    let n : ℕ = suc (length results) in
    let each = each_few (16 / n) r (y ∷ results) (some_each n (omega arith) few) in
    let room = room_each n in
    omega (arith, each, room)

-- one result more
pub result_more : (most r : ℕ) (e : Ends) (y : Instance) (i : ℕ) (old new : List Instance) → 0 < most → length old ≤ i * most
    → new ≡ old ++ pieces_of most r e y → length new ≤ (i + 1) * most
result_more most r e y i old new some few more =
    let one = pieces_few most r e y some in
    let sum = ap length more ∙ length-append old (pieces_of most r e y) in
    let next : (i + 1) * most ≡ suc i * most = ap (λ k. k * most) (omega arith) in
    let product = suc-mul i most in
    omega (arith, few, one, sum, next, product)
