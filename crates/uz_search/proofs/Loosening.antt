-- What is left at an exit stays within limits but for pairs of which nothing is known, and loosening mends these.
use Rattle.uz_search.proofs.Common.{◌≡◌, ◌≢◌, ℕ, zero, suc, ◌<◌, ◌≤◌, ◌+◌, ◌*◌, List, Option, Some, None, Bool, true, refl, sym, ap, ◌∙◌}
use Rattle.uz_search.proofs.Common.{subst, ⊎_elim, length, slice_get, slice_set, slice_index_or, nat_lt, if◌then◌else◌, arith, ⊤, cases_eq}
use Rattle.uz_search.proofs.Common.{Ends, hull, whole_byte, whole_pair, tracked, depth_of, BitFits, spans_fit, Compared, Byte, Nothing}
use Rattle.uz_search.proofs.Common.{PairResult, Value, Val, Range, Old, OldFlags, Head, Kind, Instance, Left, Exit, Test, is_taken, left_at}
use Rattle.uz_search.proofs.Common.{left_of, narrowed, with_left, with_some_left, byte_hull, is_pointer, pair_number, span_of, value_at}
use Rattle.uz_search.proofs.Common.{Each, IsOpen, OldFits, loosened, loosened_pair, loosened_register, loosened_value, is_whole, same_Some}
use Rattle.uz_search.proofs.Common.{slice_get-get_or, length-set, get_or-set_other, get_or-set_same}
use Rattle.uz_schedule.specs.declared.facts.Compared.TheVariants.{Pair, Result}
use Rattle.uz_transfer.specs.Narrowed.{as_asked, byte_span, narrowed_by}
use Rattle.uz_transfer.specs.Narrowed.{with_against_span, with_both, with_first_pair, with_one, with_one_pair, with_pair, with_span}
use Rattle.uz_schedule.specs.declared.facts.Against.{Against}
use Rattle.uz_range.specs.Narrowing.{bit_narrowed}
use Rattle.uz_search.proofs.Known.{Known, each_set, index_each}
use Rattle.uz_search.proofs.Lists.{choose}
use Rattle.uz_schedule.specs.declared.facts.Against.TheVariants as against
use Rattle.uz_transfer.specs.declared.step.Test.TheVariants as test

-- what is known of an instance of this kind, but for its pairs
pub record NearlyKnown (head : Head) (kind : Kind) (x : Instance) : Type 0 where
  pub register_count : length x.regs ≡ 32
  pub registers : Each (OldFits kind) x.regs
  pub pair_count : length x.pairs ≡ 3
  pub flag_count : length x.flags ≡ 7
  pub flags : Each (BitFits kind) x.flags
  pub slots : length x.stack.items ≤ depth_of head kind
  pub stack : Each (OldFits kind) x.stack.items
  pub cells : spans_fit (tracked head kind) x.cells.items ≡ true

-- What is left

record LeftFits (kind : Kind) (left : Left) : Type 0 where
  registers : Each (OldFits kind) left.regs
  register_count : length left.regs ≡ 32
  pair_count : length left.pairs ≡ 3

abbrev SomeLeftFits : Kind → Option Left → Type 0
SomeLeftFits kind None = ⊤
SomeLeftFits kind (Some left) = LeftFits kind left

module _ (kind : Kind) where
  span_fits : (d : ℕ) (e : Ends) (left : Left) → LeftFits kind left → LeftFits kind (with_span d e left)
  span_fits d e left h = record {
    registers = each_set (OldFits kind) left.regs d (Range e) h.registers tt;
    register_count = length-set left.regs d (Range e) ∙ h.register_count;
    pair_count = h.pair_count;
  }

  against_fits : (source : Against) (e : Ends) (left : Left) → LeftFits kind left → LeftFits kind (with_against_span source e left)
  against_fits (against.Register r) e left h = span_fits r e left h
  against_fits (against.Constant k) e left h = h

  pair_fits : (d : ℕ) (e : Ends) (left : Left) → LeftFits kind left → LeftFits kind (with_pair d e left)
  pair_fits d e left h = record {
    registers = h.registers;
    register_count = h.register_count;
    pair_count = choose (λ (l : List Ends). length l ≡ 3) (is_pointer d) (slice_set left.pairs (pair_number d) e) left.pairs
        (length-set left.pairs (pair_number d) e ∙ h.pair_count) h.pair_count;
  }

  both_fit : (d : ℕ) (source : Against) (left : Left) (o : Option (Ends × Ends)) → LeftFits kind left
      → SomeLeftFits kind (with_both d source left o)
  both_fit d source left None h = tt
  both_fit d source left (Some p) h = span_fits d p.0 (with_against_span source p.1 left) (against_fits source p.1 left h)

  one_fits : (d : ℕ) (left : Left) (o : Option Ends) → LeftFits kind left → SomeLeftFits kind (with_one d left o)
  one_fits d left None h = tt
  one_fits d left (Some e) h = span_fits d e left h

  one_pair_fits : (d : ℕ) (left : Left) (o : Option Ends) → LeftFits kind left → SomeLeftFits kind (with_one_pair d left o)
  one_pair_fits d left None h = tt
  one_pair_fits d left (Some e) h =
      both_fit d (against.Register (d + 1)) (with_pair d e left) _ (pair_fits d e left h)

  first_pair_fits : (d : ℕ) (left : Left) (o : Option (Ends × Ends)) → LeftFits kind left → SomeLeftFits kind (with_first_pair d left o)
  first_pair_fits d left None h = tt
  first_pair_fits d left (Some p) h = one_pair_fits d left (Some p.0) h

  by_flag_fits : (c : Compared) (k : ℕ) (is_set : Bool) (left : Left) → LeftFits kind left → SomeLeftFits kind (narrowed_by c k is_set left)
  by_flag_fits Nothing k is_set left h = h
  by_flag_fits (Byte d source) k is_set left h = both_fit d source left _ h
  by_flag_fits (Pair d low high) k is_set left h = first_pair_fits d left _ h
  by_flag_fits (Result d j old) k is_set left h = one_fits d left _ h
  by_flag_fits (PairResult d j old) k is_set left h = one_pair_fits d left _ h
  by_flag_fits (Value d) k is_set left h = one_fits d left _ h

  left_fits : (asks : Test) (taken : Bool) (c : Compared) (left : Left) → LeftFits kind left → SomeLeftFits kind (left_at asks taken c left)
  left_fits test.Nothing taken c left h = h
  left_fits (test.Flag k set) taken c left h = choose (SomeLeftFits kind) (nat_lt k 5) (narrowed_by c k (as_asked taken set) left)
      (Some left) (by_flag_fits c k (as_asked taken set) left h) h
  left_fits (test.Equal d r) taken c left h = both_fit d (against.Register r) left _ h
  left_fits (test.Bit r b set) taken c left h = choose (SomeLeftFits kind) (nat_lt b 8)
      (with_one r left (bit_narrowed b (as_asked taken set) (byte_span left r))) (Some left)
      (one_fits r left (bit_narrowed b (as_asked taken set) (byte_span left r)) h) h

pub narrowed_nearly : (head : Head) (kind : Kind) (asks : Test) (exit : Exit) (z y : Instance) → NearlyKnown head kind z
    → narrowed asks exit z ≡ Some y → NearlyKnown head kind y
narrowed_nearly head kind asks exit z y h is = by (left_at asks (is_taken exit) z.compared (left_of z))
    (left_fits kind asks (is_taken exit) z.compared (left_of z) (record {
      registers = h.registers;
      register_count = h.register_count;
      pair_count = h.pair_count;
    })) is
  where
    by : (o : Option Left) → SomeLeftFits kind o → with_some_left o z ≡ Some y → NearlyKnown head kind y
    by None fit e = cc
    by (Some left) fit e = subst (NearlyKnown head kind) (same_Some (with_left left z) y e) (record {
      register_count = fit.register_count;
      registers = fit.registers;
      pair_count = fit.pair_count;
      flag_count = h.flag_count;
      flags = h.flags;
      slots = h.slots;
      stack = h.stack;
      cells = h.cells;
    })

-- Loosening

-- every byte lies in it
abbrev IsOpenByte : Val → Type 0
IsOpenByte v = ((span_of v).lo ≡ 0) × (255 ≤ (span_of v).hi)

loose_open : (v : Val) → IsOpenByte (loosened_value v)
loose_open (Range e) = (refl, omega arith)
loose_open (Old r) = (refl, omega arith)
loose_open OldFlags = (refl, omega arith)

loose_old : (kind : Kind) (v : Val) → OldFits kind v → OldFits kind (loosened_value v)
loose_old kind (Range e) h = tt
loose_old kind (Old r) h = h
loose_old kind OldFlags h = h

abbrev OpenAt : List Val → ℕ → Type 0
OpenAt regs j = IsOpenByte (value_at regs j)

module _ (kind : Kind) where
  register_fits : (r : ℕ) (regs : List Val) → Each (OldFits kind) regs → Each (OldFits kind) (loosened_register r regs)
  register_fits r regs h = each_set (OldFits kind) regs r (loosened_value (value_at regs r)) h
      (loose_old kind (value_at regs r) (index_each (OldFits kind) regs r (Range whole_byte) h tt))

  registers_fit : (pair : Ends) (d : ℕ) (regs : List Val) → Each (OldFits kind) regs → Each (OldFits kind) (loosened_pair pair d regs)
  registers_fit pair d regs h = choose (Each (OldFits kind)) (is_whole pair) (loosened_register (d + 1) (loosened_register d regs)) regs
      (register_fits (d + 1) (loosened_register d regs) (register_fits d regs h)) h

register_length : (r : ℕ) (regs : List Val) → length (loosened_register r regs) ≡ length regs
register_length r regs = length-set regs r (loosened_value (value_at regs r))

pair_length : (pair : Ends) (d : ℕ) (regs : List Val) → length (loosened_pair pair d regs) ≡ length regs
pair_length pair d regs = choose (λ (l : List Val). length l ≡ length regs) (is_whole pair)
    (loosened_register (d + 1) (loosened_register d regs)) regs
    (register_length (d + 1) (loosened_register d regs) ∙ register_length d regs) refl

opened : (r : ℕ) (regs : List Val) → r < length regs → OpenAt (loosened_register r regs) r
opened r regs within = subst IsOpenByte
    (sym (get_or-set_same regs r (loosened_value (value_at regs r)) (Range whole_byte) within)) (loose_open (value_at regs r))

-- an open register stays so
still_open : (r j : ℕ) (regs : List Val) → j < length regs → OpenAt regs j → OpenAt (loosened_register r regs) j
still_open r j regs within h = ⊎_elim
    (λ (same : j ≡ r). subst (λ k. OpenAt (loosened_register k regs) j) same (opened j regs within))
    (λ (other : j ≢ r). subst IsOpenByte
    (sym (get_or-set_other regs r j (loosened_value (value_at regs r)) (Range whole_byte) other)) h)
    (cases_eq j r)

-- both bytes are open
abbrev BothOpen : List Val → ℕ → Type 0
BothOpen regs d = OpenAt regs d × OpenAt regs (d + 1)

pair_opens : (pair : Ends) (d : ℕ) (regs : List Val) → d + 1 < length regs → is_whole pair ≡ true → BothOpen (loosened_pair pair d regs) d
pair_opens pair d regs within whole =
    let long = register_length d regs in
    subst (λ l. BothOpen l d) (ap (λ b. if b then loosened_register (d + 1) (loosened_register d regs) else regs) (sym whole)) (
      still_open (d + 1) d (loosened_register d regs) (omega (arith, within, long)) (opened d regs (omega (arith, within))),
      opened (d + 1) (loosened_register d regs) (omega (arith, within, long)),
    )

stays_open : (pair : Ends) (d j : ℕ) (regs : List Val) → j < length regs → OpenAt regs j → OpenAt (loosened_pair pair d regs) j
stays_open pair d j regs within h = choose (λ (l : List Val). OpenAt l j) (is_whole pair)
    (loosened_register (d + 1) (loosened_register d regs)) regs
    (still_open (d + 1) j (loosened_register d regs) (let long = register_length d regs in omega (arith, within, long))
    (still_open d j regs within h)) h

open_hull : (a b : Val) → IsOpenByte a → IsOpenByte b → IsOpen (hull (span_of a) (span_of b))
open_hull a b h k = (omega (arith, h.0, k.0), omega (arith, h.1, k.1))

module _ (head : Head) (kind : Kind) (x : Instance) (h : NearlyKnown head kind x) where
  abbrev one : List Val
  one = loosened_pair (slice_index_or x.pairs 0 whole_pair) 26 x.regs

  abbrev two : List Val
  two = loosened_pair (slice_index_or x.pairs 1 whole_pair) 28 one

  abbrev three : List Val
  three = loosened_pair (slice_index_or x.pairs 2 whole_pair) 30 two

  one_count : length one ≡ 32
  one_count = pair_length (slice_index_or x.pairs 0 whole_pair) 26 x.regs ∙ h.register_count

  two_count : length two ≡ 32
  two_count = pair_length (slice_index_or x.pairs 1 whole_pair) 28 one ∙ one_count

  three_count : length three ≡ 32
  three_count = pair_length (slice_index_or x.pairs 2 whole_pair) 30 two ∙ two_count

  whole_at : (k : ℕ) → k < 3 → slice_get x.pairs k ≡ Some whole_pair → is_whole (slice_index_or x.pairs k whole_pair) ≡ true
  whole_at k few at = let len = h.pair_count in
      ap is_whole (same_Some (slice_index_or x.pairs k whole_pair) whole_pair
      (sym (slice_get-get_or x.pairs k whole_pair (omega (arith, few, len))) ∙ at))

  later_two : (j : ℕ) → j < 32 → OpenAt two j → OpenAt three j
  later_two j few is = stays_open (slice_index_or x.pairs 2 whole_pair) 30 j two (let len = two_count in omega (arith, few, len)) is

  later_one : (j : ℕ) → j < 32 → OpenAt one j → OpenAt three j
  later_one j few is = later_two j few
      (stays_open (slice_index_or x.pairs 1 whole_pair) 28 j one (let len = one_count in omega (arith, few, len)) is)

  hulls : (k : ℕ) → k < 3 → slice_get x.pairs k ≡ Some whole_pair → IsOpen (byte_hull three (26 + 2 * k))
  hulls zero few at =
      let len = h.register_count in
      let both = pair_opens (slice_index_or x.pairs 0 whole_pair) 26 x.regs (omega (arith, len)) (whole_at 0 few at) in
      open_hull (value_at three 26) (value_at three 27) (later_one 26 (omega arith) both.0) (later_one 27 (omega arith) both.1)
  hulls (suc zero) few at =
      let len = one_count in
      let both = pair_opens (slice_index_or x.pairs 1 whole_pair) 28 one (omega (arith, len)) (whole_at 1 few at) in
      open_hull (value_at three 28) (value_at three 29) (later_two 28 (omega arith) both.0) (later_two 29 (omega arith) both.1)
  hulls (suc (suc zero)) few at =
      let len = two_count in
      let both = pair_opens (slice_index_or x.pairs 2 whole_pair) 30 two (omega (arith, len)) (whole_at 2 few at) in
      open_hull (value_at three 30) (value_at three 31) both.0 both.1
  hulls (suc (suc (suc k))) few at = absurd (omega (arith, few))

  pub loosened_known : Known head kind (loosened x)
  loosened_known = record {
    register_count = three_count;
    registers = registers_fit kind (slice_index_or x.pairs 2 whole_pair) 30 two
        (registers_fit kind (slice_index_or x.pairs 1 whole_pair) 28 one
        (registers_fit kind (slice_index_or x.pairs 0 whole_pair) 26 x.regs h.registers));
    pair_count = h.pair_count;
    hulls = hulls;
    flag_count = h.flag_count;
    flags = h.flags;
    slots = h.slots;
    stack = h.stack;
    cells = h.cells;
  }
