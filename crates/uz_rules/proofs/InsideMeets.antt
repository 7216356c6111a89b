-- A state that meets an instance meets each in which it lies.
use Rattle.uz_rules.proofs.Common.{get_or_past, eqb-true, cases_lt, ◌%◌, sym, not, ◌≡◌, inl, inr, ℕ, zero, suc, ◌+◌, ◌-◌, ◌<◌, ◌≤◌, Bool}
use Rattle.uz_rules.proofs.Common.{true, false, nat_eq, nat_le, Some, List, length, refl, ◌∙◌, ap, subst, arith, ◌&&◌, AllByRecursion}
use Rattle.uz_rules.proofs.Common.{eqb_tells, nat_tests, Core, register, IsByte, IsCore, Ends, Against, Register, Constant, Compared}
use Rattle.uz_rules.proofs.Common.{Nothing, Pair, Result, PairResult, Value, Kind, Main, Handler, Alone, Bit, Zero, One, Free, OldBit, Val}
use Rattle.uz_rules.proofs.Common.{Range, Old, OldFlags, Head, Instance, ends, IsWithin, value_at, flag_at, pair_at, span_at, ComparedHolds}
use Rattle.uz_rules.proofs.Common.{ValueHolds, FlagHolds, CoreMeets, cell_place, MemoryMeets, range_inside, value_inside, flag_inside}
use Rattle.uz_rules.proofs.Common.{all_below, same_kind, same_place, pairs_inside, contents_inside, is_old_register, TimerMeets}
use Rattle.uz_rules.proofs.Common.{TimerCounts, is_old, bit_is_set, is_main, same_from_bits_below, ext_get_or, eq-eqb, and_parts, or_right}
use Rattle.uz_core.proofs.ByteLists.{byte_at}
use Rattle.uz_schedule.specs.Exact.{exact_compared}
use Rattle.uz_schedule.specs.declared.facts.Compared.TheVariants.{Byte}
use Rattle.uz_rules.specs.Inside.{same_bool, registers_inside, flags_inside, slots_inside, cells_inside, SamePlace, PlaceTells, PlaceHolds}
use Rattle.uz_rules.specs.Inside.{KnownInItself, compared_inside, tells_nothing, InsideKeeps, StateInside, RestoredGives}
use Rattle.uz_rules.proofs.CoreSteps.{low_seven, same_bit}
use Rattle.uz_rules.proofs.CoreKeeps.{whole, register_byte}
use Rattle.uz_schedule.specs.contracts.facts.AgainstPartialEq as operands
use Rattle.uz_schedule.specs.contracts.facts.ComparedPartialEq as comparisons

pub below_tells : (n : ℕ) (test : ℕ → Bool) → all_below n test ≡ true → (k : ℕ) → k < n → test k ≡ true
unfolding all_below
below_tells zero test e k h = absurd (omega arith)
below_tells (suc n) test e k h =
    let both = and_parts (all_below n test) (test n) e in
    elim (eqb_tells k n) [
      | inl t ↦ ap test t.1 ∙ both.1
      | inr t ↦ below_tells n test both.0 k (omega (arith, t.1, h))
    ]

within_both : (a b : Ends) (x : ℕ) → range_inside a b ≡ true → IsWithin x a → IsWithin x b
within_both a b x e h =
    let both = and_parts (nat_le b.lo a.lo) (nat_le a.hi b.hi) e in
    let low : b.lo ≤ a.lo = (let t = both.0 in grind (arith, nat_tests)) in
    let high : a.hi ≤ b.hi = (let t = both.1 in grind (arith, nat_tests)) in
    record { above = omega (arith, low, h.above); below = omega (arith, high, h.below) }

val_widens : (a b : Val) (o : Core) (x : ℕ) → x < 256 → value_inside a b ≡ true → ValueHolds a o x → ValueHolds b o x
val_widens (Range a) (Range b) o x w e h = within_both a b x e h
val_widens (Old r) (Range b) o x w e h = within_both (ends 0 255) b x e (whole x w)
val_widens OldFlags (Range b) o x w e h = within_both (ends 0 255) b x e (whole x w)
val_widens (Old r) (Old s) o x w e h = let i : r ≡ s = grind (arith, nat_tests) in subst (λ q. x ≡ register o q) i h
val_widens OldFlags OldFlags o x w e h = h
val_widens a b o x w e h = absurd cc

bit_widens : (a b : Bit) (before t : Bool) → flag_inside a b ≡ true → FlagHolds a before t → FlagHolds b before t
bit_widens a Free before t e h = tt
bit_widens Zero Zero before t e h = h
bit_widens One One before t e h = h
bit_widens OldBit OldBit before t e h = h
bit_widens a b before t e h = absurd cc

kind_tells : (a b : Kind) → same_kind a b ≡ true → a ≡ b
kind_tells Main Main e = refl
kind_tells Handler Handler e = refl
kind_tells Alone Alone e = refl
kind_tells a b e = absurd cc

-- Where two instances stand

same_bits : (a b : Bool) → same_bool a b ≡ true → a ≡ b
same_bits true true e = refl
same_bits false false e = refl
same_bits a b e = absurd cc

pub place_tells : PlaceTells
place_tells a b e =
    let p1 = and_parts (same_kind a.kind b.kind) _ e in
    let p2 = and_parts (nat_eq a.pc b.pc) _ p1.1 in
    let p3 = and_parts (nat_eq a.line b.line) _ p2.1 in
    let p4 = and_parts (nat_eq a.clock b.clock) _ p3.1 in
    let p5 = and_parts (same_bool a.pending b.pending) _ p4.1 in
    record {
      kind = kind_tells a.kind b.kind p1.0;
      pc = eqb-true a.pc b.pc p2.0;
      line = eqb-true a.line b.line p3.0;
      clock = eqb-true a.clock b.clock p4.0;
      pending = same_bits a.pending b.pending p5.0;
      top = eqb-true a.top b.top p5.1;
    }

kind_itself : (k : Kind) → same_kind k k ≡ true
kind_itself Main = refl
kind_itself k = refl

bit_itself : (b : Bool) → same_bool b b ≡ true
bit_itself true = refl
bit_itself false = refl

pub place_holds : PlaceHolds
place_holds a b s =
    let kind = ap (same_kind a.kind) (sym s.kind) ∙ kind_itself a.kind in
    let pc = eq-eqb a.pc b.pc s.pc in
    let line = eq-eqb a.line b.line s.line in
    let clock = eq-eqb a.clock b.clock s.clock in
    let pending = ap (same_bool a.pending) (sym s.pending) ∙ bit_itself a.pending in
    let top = eq-eqb a.top b.top s.top in
    λ i. kind i && (pc i && (line i && (clock i && (pending i && top i))))

-- What is known

-- the contents, part by part
pub record ContentsInside (a b : Instance) : Type 0 where
  pub slots : slots_inside a.stack.items b.stack.items ≡ true
  pub cells : cells_inside a.cells.items b.cells.items ≡ true
  pub flags : flags_inside a.flags b.flags ≡ true
  pub compared : compared_inside a.compared b.compared ≡ true
  pub pairs : pairs_inside a.pairs b.pairs ≡ true
  pub registers : registers_inside a.regs b.regs ≡ true

pub contents_tell : (a b : Instance) → contents_inside a b ≡ true → ContentsInside a b
contents_tell a b e =
    let two = and_parts (slots_inside a.stack.items b.stack.items) _ e in
    let three = and_parts (cells_inside a.cells.items b.cells.items) _ two.1 in
    let four = and_parts (flags_inside a.flags b.flags) _ three.1 in
    let five = and_parts (compared_inside a.compared b.compared) _ four.1 in
    let six = and_parts (pairs_inside a.pairs b.pairs) _ five.1 in
    record { slots = two.0; cells = three.0; flags = four.0; compared = five.0; pairs = six.0; registers = six.1 }

below_all : (n : ℕ) (test : ℕ → Bool) → ((k : ℕ) → test k ≡ true) → all_below n test ≡ true
unfolding all_below
below_all zero test all = refl
below_all (suc n) test all = λ i. below_all n test all i && all n i

range_itself : (e : Ends) → range_inside e e ≡ true
range_itself e = grind (arith, nat_tests)

value_itself : (v : Val) → value_inside v v ≡ true
value_itself (Range e) = range_itself e
value_itself (Old r) = eq-eqb r r refl
value_itself OldFlags = refl

flag_itself : (f : Bit) → flag_inside f f ≡ true
flag_itself Zero = refl
flag_itself f = refl

-- The last comparison

against_itself : (x : Against) → (operands.TheImpl.eq-value).it x x ≡ true
against_itself (Register r) = eq-eqb r r refl
against_itself (Constant k) = eq-eqb k k refl

ends_itself : (e : Ends) → (nat_eq e.lo e.lo && nat_eq e.hi e.hi) ≡ true
ends_itself e = λ i. eq-eqb e.lo e.lo refl i && eq-eqb e.hi e.hi refl i

compared_equal : (c : Compared) → (comparisons.TheImpl.eq-value).it c c ≡ true
compared_equal Nothing = refl
compared_equal (Byte d source) = λ i. eq-eqb d d refl i && against_itself source i
compared_equal (Pair d low high) = λ i. eq-eqb d d refl i && (against_itself low i && eq-eqb high high refl i)
compared_equal (Result d k old) = λ i. eq-eqb d d refl i && (eq-eqb k k refl i && ends_itself old i)
compared_equal (PairResult d k old) = λ i. eq-eqb d d refl i && (eq-eqb k k refl i && ends_itself old i)
compared_equal (Value d) = eq-eqb d d refl

compared_itself : (c : Compared) → compared_inside c c ≡ true
compared_itself c = or_right (tells_nothing c) _ (compared_equal c)

pub compared_widens : (a b : Compared) (core : Core) → compared_inside a b ≡ true → ComparedHolds a core → ComparedHolds b core
compared_widens a Nothing core e h = tt
compared_widens a b core e h = subst (λ c. ComparedHolds c core) (exact_compared a b e) h

pub known_in_itself : KnownInItself
known_in_itself a = λ i. range_itself a.temp i && (slots i && (cells i && (flags i && (compared_itself a.compared i && (pairs i && registers i)))))
  where
    slots : slots_inside a.stack.items a.stack.items ≡ true
    slots = λ i. eq-eqb (length a.stack.items) (length a.stack.items) refl i && below_all (length a.stack.items)
        (λ k. value_inside (value_at a.stack.items k) (value_at a.stack.items k)) (λ k. value_itself (value_at a.stack.items k)) i

    cells : cells_inside a.cells.items a.cells.items ≡ true
    cells = λ i. eq-eqb (length a.cells.items) (length a.cells.items) refl i && below_all (length a.cells.items)
        (λ j. range_inside (span_at a.cells.items j) (span_at a.cells.items j)) (λ j. range_itself (span_at a.cells.items j)) i

    flags : flags_inside a.flags a.flags ≡ true
    flags = below_all 7 (λ k. flag_inside (flag_at a.flags k) (flag_at a.flags k)) (λ k. flag_itself (flag_at a.flags k))

    pairs : pairs_inside a.pairs a.pairs ≡ true
    pairs = below_all 3 (λ k. range_inside (pair_at a.pairs k) (pair_at a.pairs k)) (λ k. range_itself (pair_at a.pairs k))

    registers : registers_inside a.regs a.regs ≡ true
    registers = below_all 32 (λ r. value_inside (value_at a.regs r) (value_at a.regs r)) (λ r. value_itself (value_at a.regs r))

pub core_widens : (a b : Instance) (o core : Core) → IsCore core → contents_inside a b ≡ true → CoreMeets a o core → CoreMeets b o core
core_widens a b o core c e h =
    let parts = contents_tell a b e in
    record {
      regs = λ r w. val_widens _ _ o _ (register_byte core r c) (below_tells 32 (λ r. value_inside (value_at a.regs r) (value_at b.regs r))
          parts.registers r w) (h.regs r w);
      pairs = λ k w. within_both _ _ _ (below_tells 3 (λ k. range_inside (pair_at a.pairs k) (pair_at b.pairs k)) parts.pairs k w)
          (h.pairs k w);
      flags = λ k w. bit_widens _ _ _ _ (below_tells 7 (λ k. flag_inside (flag_at a.flags k) (flag_at b.flags k)) parts.flags k w)
          (h.flags k w);
    }

pub memory_widens : (head : Head) (a b : Instance) (o : Core) (d sp : ℕ) (bytes : List ℕ) → AllByRecursion IsByte bytes → a.kind ≡ b.kind
    → contents_inside a b ≡ true → MemoryMeets head a o d sp bytes → MemoryMeets head b o d sp bytes
memory_widens head a b o d sp bytes all kind e h =
    let parts = contents_tell a b e in
    let slots = and_parts (nat_eq (length a.stack.items) (length b.stack.items)) _ parts.slots in
    let cells = and_parts (nat_eq (length a.cells.items) (length b.cells.items)) _ parts.cells in
    let size : length a.stack.items ≡ length b.stack.items = eqb-true (length a.stack.items) (length b.stack.items) slots.0 in
    let count : length a.cells.items ≡ length b.cells.items = eqb-true (length a.cells.items) (length b.cells.items) cells.0 in
    record {
      slots = λ i w.
          let w' : i < length a.stack.items = omega (arith, size, w) in
          rw (← size) (val_widens _ _ o _ (byte_at bytes (sp + length a.stack.items - i) all)
          (below_tells (length a.stack.items) (λ i. value_inside (value_at a.stack.items i) (value_at b.stack.items i)) slots.1 i w')
          (h.slots i w'));
      cells = λ at j p.
          let q : cell_place head a.kind at ≡ Some j = rw kind p in
          elim (cases_lt j (length b.cells.items)) [
            | inl t ↦ within_both _ _ _ (below_tells (length a.cells.items)
                (λ j. range_inside (span_at a.cells.items j) (span_at b.cells.items j)) cells.1 j (omega (arith, count, t)))
                (h.cells at j q)
            | inr t ↦ rw (get_or_past b.cells.items j (ends 0 255) t) (whole _ (byte_at bytes at all))
          ];
      ranges = h.ranges;
      depth = rw (← size, ← kind) h.depth;
    }

pub inside_keeps : InsideKeeps
inside_keeps head a b o core d sp bytes c all e h m =
    let both = and_parts (same_place a b) _ e in
    let place = place_tells a b both.0 in
    let contents = (and_parts (range_inside a.temp b.temp) _ both.1).1 in
    (core_widens a b o core c contents h, memory_widens head a b o d sp bytes all place.kind contents m)

-- A state

pub state_inside : StateInside
state_inside head a b o d s state e level m =
    let both = and_parts (same_place a b) _ e in
    let place = place_tells a b both.0 in
    let known = and_parts (range_inside a.temp b.temp) _ both.1 in
    record {
      pc = m.pc ∙ place.pc;
      enabled = m.enabled ∙ ap is_main place.kind;
      core = core_widens a b o s.core state.core known.1 m.core;
      compared = compared_widens a.compared b.compared s.core (contents_tell a b known.1).compared m.compared;
      memory = memory_widens head a b o d s.core.sp s.space.bytes state.space.bytes place.kind known.1 m.memory;
      timer = timer_widens place known.0 a.kind b.kind place.kind m.timer;
      ticks = subst (λ k. TimerCounts k s.space.timer) place.kind m.ticks;
      level = level;
      response = m.response;
    }
  where
    timer_widens : SamePlace a b → range_inside a.temp b.temp ≡ true → (k l : Kind) → k ≡ l → TimerMeets k a s.space.timer
        → TimerMeets l b s.space.timer
    timer_widens p temp k l same h = subst (λ x. TimerMeets x b s.space.timer) same (widens k h)
      where
        widens : (k : Kind) → TimerMeets k a s.space.timer → TimerMeets k b s.space.timer
        widens Main h = tt
        widens Handler h = (h.0 ∙ p.clock, h.1 ∙ p.pending, h.2 ∙ p.top, within_both a.temp b.temp s.space.timer.temp temp h.3)
        widens Alone h = tt

-- Restored

old_gives : (r : ℕ) (v : Val) (o : Core) (x : ℕ) → is_old_register r v ≡ true → ValueHolds v o x → x ≡ register o r
old_gives r (Range e) o x t h = absurd cc
old_gives r (Old q) o x t h = h ∙ ap (register o) (sym (eqb-true r q t))
old_gives r OldFlags o x t h = absurd cc

flag_gives : (f : Bit) (before now : Bool) → is_old f ≡ true → FlagHolds f before now → now ≡ before
flag_gives OldBit before now t h = h
flag_gives f before now t h = absurd cc

pub restored_gives : RestoredGives
restored_gives inst o core c old e h =
    let one = and_parts (nat_eq (length inst.stack.items) 0) _ e in
    let two = and_parts (not inst.pending) _ one.1 in
    let three = and_parts (all_below 7 (λ k. is_old (flag_at inst.flags k))) _ two.1 in
    let sreg : core.sreg % 128 ≡ o.sreg % 128 = same_from_bits_below 7 (core.sreg % 128) (o.sreg % 128) (omega arith) (omega arith) (λ k w.
    let is = flag_gives (flag_at inst.flags k) (bit_is_set o.sreg k) (bit_is_set core.sreg k)
    (below_tells 7 (λ k. is_old (flag_at inst.flags k)) three.0 k w) (h.flags k w) in
    low_seven core.sreg k w ∙ (same_bit core.sreg o.sreg k is ∙ sym (low_seven o.sreg k w))) in (
      ext_get_or 0 core.registers o.registers (c.count ∙ sym old.count) (λ r w.
          let w' : r < 32 = omega (arith, w, c.count) in
          old_gives r (value_at inst.regs r) o (register core r) (below_tells 32 (λ r. is_old_register r (value_at inst.regs r)) three.1 r
          w') (h.regs r w')),
      sreg,
    )
