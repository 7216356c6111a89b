-- What stores keep of a memory that meets an instance.
use Rattle.uz_rules.proofs.Common.{Range, get_or_push, get_or_append_left, length-take-le, get_or-take, get_or-set_other, ◌≡◌, ◌≢◌, ◌⊎◌}
use Rattle.uz_rules.proofs.Common.{inl, inr, ℕ, suc, ◌+◌, ◌-◌, ◌<◌, ◌≤◌, Bool, true, false, if◌then◌else◌, nat_eq, nat_lt, Option, Some}
use Rattle.uz_rules.proofs.Common.{None, List, [], ◌∷◌, ◌++◌, length, refl, sym, ◌∙◌, subst, arith, slice_index, slice_set, take, ◌||◌}
use Rattle.uz_rules.proofs.Common.{◌&&◌, eqb_tells, nat_tests, length-append, Core, Ends, Kind, Cell, Head, Val, Instance, IsWithin, ends}
use Rattle.uz_rules.proofs.Common.{span_at, ValueHolds, tracks, place_from, cell_place, range_from, cell_range, misses, CellsHold}
use Rattle.uz_rules.proofs.Common.{HeaderHolds, StackHolds, MemoryMeets, HeadFits, with_cell, with_slots}
use Rattle.uz_rules.proofs.CoreKeeps.{or_same}

-- a byte is written at an address; what lies below RAM doesn't matter
pub record Wrote (at v : ℕ) (old new : List ℕ) : Type 0 where
  pub other : (a : ℕ) → 256 ≤ a → a ≢ at → slice_index new a ≡ slice_index old a
  pub same : 256 ≤ at → at ≤ 4351 → slice_index new at ≡ v

-- Cells

place_least : (kind : Kind) (cells : List Cell) (n at j : ℕ) → place_from kind cells n at ≡ Some j → n ≤ j
place_least kind [] n at j e = absurd cc
place_least kind (c ∷ cells) n at j e = least_by kind cells n at j (nat_eq c.at at) (tracks kind c.owner)
    (λ m. place_least kind cells m at j) e
  where
    least_by : (kind : Kind) (cells : List Cell) (n at j : ℕ) (t k : Bool) → ((m : ℕ) → place_from kind cells m at ≡ Some j → m ≤ j)
        → (if t then (if k then Some n else None) else place_from kind cells (if k then suc n else n) at) ≡ Some j → n ≤ j
    least_by kind cells n at j true true later e = let i : n ≡ j = cc in omega arith
    least_by kind cells n at j true false later e = absurd cc
    least_by kind cells n at j false true later e = omega (arith, later (suc n) e)
    least_by kind cells n at j false false later e = later n e

-- no two addresses have one place
place_one : (kind : Kind) (cells : List Cell) (n a b j : ℕ) → place_from kind cells n a ≡ Some j → place_from kind cells n b ≡ Some j
    → a ≡ b
place_one kind [] n a b j e f = absurd cc
place_one kind (c ∷ cells) n a b j e f = one_by (nat_eq c.at a) (nat_eq c.at b) (tracks kind c.owner) refl refl
    (λ m. place_one kind cells m a b j) e f
  where
    one_by : (t u k : Bool) → nat_eq c.at a ≡ t → nat_eq c.at b ≡ u → ((m : ℕ) → place_from kind cells m a ≡ Some j → place_from kind cells
        m b ≡ Some j → a ≡ b)
        → (if t then (if k then Some n else None) else place_from kind cells (if k then suc n else n) a) ≡ Some j
        → (if u then (if k then Some n else None) else place_from kind cells (if k then suc n else n) b) ≡ Some j → a ≡ b
    one_by true true k p q later e f = let i : c.at ≡ a = grind (arith, nat_tests) in let j : c.at ≡ b = grind (arith, nat_tests) in
        sym i ∙ j
    one_by true false true p q later e f = let i : n ≡ j = cc in absurd (omega (arith, place_least kind cells (suc n) b j f))
    one_by true false false p q later e f = absurd cc
    one_by false true true p q later e f = let i : n ≡ j = cc in absurd (omega (arith, place_least kind cells (suc n) a j e))
    one_by false true false p q later e f = absurd cc
    one_by false false true p q later e f = later (suc n) e f
    one_by false false false p q later e f = later n e f

pub record HasRange (cells : List Cell) (at : ℕ) : Type 0 where
  pub range : Ends
  pub is : range_from cells at ≡ Some range

place_has_range : (kind : Kind) (cells : List Cell) (n at j : ℕ) → place_from kind cells n at ≡ Some j → HasRange cells at
place_has_range kind [] n at j e = absurd cc
place_has_range kind (c ∷ cells) n at j e = range_by (nat_eq c.at at) refl (λ m. place_has_range kind cells m at j) e
  where
    range_by : (t : Bool) → nat_eq c.at at ≡ t → ((m : ℕ) → place_from kind cells m at ≡ Some j → HasRange cells at)
        → (if t then (if tracks kind c.owner then Some n else None) else place_from kind cells (if tracks kind c.owner then suc n else n)
        at) ≡ Some j → HasRange (c ∷ cells) at
    range_by true p later e = record { range = c.range; is = rw p refl }
    range_by false p later e = let r = later _ e in record { range = r.range; is = rw p r.is }

pub tracked_has_range : (head : Head) (kind : Kind) (at j : ℕ) → cell_place head kind at ≡ Some j → HasRange head.cells.items at
tracked_has_range head kind at j e = place_has_range kind head.cells.items 0 at j e

-- no cell lies in a range of addresses that misses them
no_and : (b : Bool) → (b && false) ≡ true → ⊥
no_and true e = cc
no_and false e = cc

pub missed : (cells : List Cell) (a r : Ends) (at : ℕ) → misses cells a ≡ true → range_from cells at ≡ Some r → (at < a.lo) ⊎ (a.hi < at)
missed [] a r at e f = absurd cc
missed (c ∷ cells) a r at e f = missed_by (nat_eq c.at at) (nat_lt c.at a.lo) (nat_lt a.hi c.at) (misses cells a) refl refl refl refl
    (missed cells a r at) e f
  where
    missed_by : (t u v w : Bool) → nat_eq c.at at ≡ t → nat_lt c.at a.lo ≡ u → nat_lt a.hi c.at ≡ v → misses cells a ≡ w
        → (misses cells a ≡ true → range_from cells at ≡ Some r → (at < a.lo) ⊎ (a.hi < at))
        → ((u || v) && w) ≡ true → (if t then Some c.range else range_from cells at) ≡ Some r → (at < a.lo) ⊎ (a.hi < at)
    missed_by t u v false p q x y later e f = absurd (no_and (u || v) e)
    missed_by true true v true p q x y later e f = inl (grind (arith, nat_tests))
    missed_by true false true true p q x y later e f = inr (grind (arith, nat_tests))
    missed_by true false false true p q x y later e f = absurd cc
    missed_by false u v true p q x y later e f = later y f

-- the cells' ranges after a store
abbrev pub spans_with : Option ℕ → Ends → List Ends → List Ends
spans_with (Some j) e spans = slice_set spans j e
spans_with None e spans = spans

cells_stored : (head : Head) (kind : Kind) (spans : List Ends) (at v : ℕ) (e : Ends) (old new : List ℕ) → HeadFits head → Wrote at v old new
    → IsWithin v e → v < 256 → CellsHold head kind spans old
    → (place : Option ℕ) → cell_place head kind at ≡ place → CellsHold head kind (spans_with place e spans) new
cells_stored head kind spans at v e old new fits wrote within byte h None is a j p =
    let r = tracked_has_range head kind a j p in
    let ram = fits.cells_ram a r.range r.is in
    rw (wrote.other a ram.0 (λ q. let z : cell_place head kind at ≡ Some j = subst (λ b. cell_place head kind b ≡ Some j) q p in cc))
    (h a j p)
cells_stored head kind spans at v e old new fits wrote within byte h (Some i) is a j p =
    let r = tracked_has_range head kind a j p in
    let ram = fits.cells_ram a r.range r.is in
    elim (eqb_tells a at) [
      | inl t ↦
          let q : i ≡ j = (let z : cell_place head kind at ≡ Some j = subst (λ b. cell_place head kind b ≡ Some j) t.1 p in cc) in
          subst (λ b. IsWithin (slice_index new b) (span_at (slice_set spans i e) j)) (sym t.1)
          (rw (wrote.same (omega (arith, ram.0, t.1)) (omega (arith, ram.1, t.1)))
          (subst (λ k. IsWithin v (span_at (slice_set spans i e) k)) q (or_same (λ x. IsWithin v x) spans i e (ends 0 255) within
          (record { above = omega arith; below = omega arith }))))
      | inr t ↦
          rw (
            wrote.other a ram.0 t.1,
            get_or-set_other spans i j e (ends 0 255)
                (λ q. t.1 (place_one kind head.cells.items 0 a at j p (subst (λ k. cell_place head kind at ≡ Some k) (sym q) is))),
          ) (h a j p)
    ]

-- Slots

-- a store off the stack
pub stored_meets : (head : Head) (inst : Instance) (o : Core) (d sp at v : ℕ) (e : Ends) (old new : List ℕ) → HeadFits head
    → MemoryMeets head inst o d sp old → head.lo ≤ suc sp → Wrote at v old new → v < 256
    → (at < head.lo) ⊎ (head.hi < at) → ((r : Ends) → cell_range head at ≡ Some r → IsWithin v r) → IsWithin v e
    → (place : Option ℕ) → cell_place head inst.kind at ≡ place → MemoryMeets head (with_cell place e inst) o d sp new
stored_meets head inst o d sp at v e old new fits h low wrote byte off takes within place is =
    by_place place (cells_stored head inst.kind inst.cells.items at v e old new fits wrote within byte h.cells place is)
  where
    slots : StackHolds inst.stack.items o sp new
    slots i w =
        rw (wrote.other (sp + length inst.stack.items - i) (omega (arith, fits.low, low, w))
        (λ q. elim off [ inl l ↦ omega (arith, l, low, q, w) | inr g ↦ omega (arith, g, q, h.depth) ])) (h.slots i w)

    ranges : HeaderHolds head new
    ranges a r p =
        let ram = fits.cells_ram a r p in
        elim (eqb_tells a at) [
          | inl t ↦
              subst (λ b. IsWithin (slice_index new b) r) (sym t.1)
              (rw (wrote.same (omega (arith, ram.0, t.1)) (omega (arith, ram.1, t.1)))
              (takes r (subst (λ b. cell_range head b ≡ Some r) t.1 p)))
          | inr t ↦ rw (wrote.other a ram.0 t.1) (h.ranges a r p)
        ]

    by_place : (place : Option ℕ) → CellsHold head inst.kind (spans_with place e inst.cells.items) new → MemoryMeets head
        (with_cell place e inst) o d sp new
    by_place (Some j) cells = record { slots = slots; cells = cells; ranges = ranges; depth = h.depth }
    by_place None cells = record { slots = slots; cells = cells; ranges = ranges; depth = h.depth }

-- nothing in RAM changes
pub kept_meets : (head : Head) (inst : Instance) (o : Core) (d sp : ℕ) (old new : List ℕ) → HeadFits head → MemoryMeets head inst o d sp old
    → head.lo ≤ suc sp
    → ((a : ℕ) → 256 ≤ a → slice_index new a ≡ slice_index old a) → MemoryMeets head inst o d sp new
kept_meets head inst o d sp old new fits h low same = record {
  slots = λ i w. rw (same (sp + length inst.stack.items - i) (omega (arith, fits.low, low, w))) (h.slots i w);
  cells = λ a j p. let r = tracked_has_range head inst.kind a j p in rw (same a (fits.cells_ram a r.range r.is).0) (h.cells a j p);
  ranges = λ a r p. rw (same a (fits.cells_ram a r p).0) (h.ranges a r p);
  depth = h.depth;
}

-- Pushes and pops

pub push_meets : (head : Head) (inst : Instance) (o : Core) (d sp below v : ℕ) (x : Val) (old new : List ℕ) → HeadFits head
    → MemoryMeets head inst o d sp old → head.lo ≤ sp → sp ≡ suc below → Wrote sp v old new → ValueHolds x o v
    → MemoryMeets head (with_slots (inst.stack.items ++ x ∷ []) inst) o d below new
push_meets head inst o d sp below v x old new fits h low is wrote hx = record {
  slots = λ i w.
      let len : length (inst.stack.items ++ x ∷ []) ≡ suc (length inst.stack.items) =
      omega (arith, length-append inst.stack.items (x ∷ [])) in
      elim (eqb_tells i (length inst.stack.items)) [
        | inl t ↦
            let at : below + length (inst.stack.items ++ x ∷ []) - i ≡ sp = omega (arith, len, t.1, is) in
            rw (
              get_or_push inst.stack.items x (Range (ends 0 255)) i (sym t.1),
              at,
              wrote.same (omega (arith, fits.low, low))
                  (omega (arith, h.depth, fits.high)),
            ) hx
        | inr t ↦
            let w' : i < length inst.stack.items = omega (arith, t.1, w, len) in
            let at : below + length (inst.stack.items ++ x ∷ []) - i ≡ sp + length inst.stack.items - i = omega (arith, len, is, w') in
            rw (
              get_or_append_left inst.stack.items (x ∷ []) (Range (ends 0 255)) i w',
              at,
              wrote.other (sp + length inst.stack.items - i) (omega (arith, fits.low, low, w'))
                  (λ q. omega (arith, q, w')),
            ) (h.slots i w')
      ];
  cells = λ a j p.
      let r = tracked_has_range head inst.kind a j p in
      rw (wrote.other a (fits.cells_ram a r.range r.is).0
      (λ q. elim (fits.cells_off a r.range r.is) [ inl l ↦ omega (arith, l, low, q) | inr g ↦ omega (arith, g, q, h.depth) ]))
      (h.cells a j p);
  ranges = λ a r p.
      rw (wrote.other a (fits.cells_ram a r p).0
      (λ q. elim (fits.cells_off a r p) [ inl l ↦ omega (arith, l, low, q) | inr g ↦ omega (arith, g, q, h.depth) ])) (h.ranges a r p);
  depth = omega (arith, h.depth, is, length-append inst.stack.items (x ∷ []));
}

-- n slots are popped
pub pop_meets : (head : Head) (inst : Instance) (o : Core) (d sp above n : ℕ) (bytes : List ℕ) → MemoryMeets head inst o d sp bytes
    → n ≤ length inst.stack.items → above ≡ sp + n
    → MemoryMeets head (with_slots (take (length inst.stack.items - n) inst.stack.items) inst) o d above bytes
pop_meets head inst o d sp above n bytes h few is =
    let len : length (take (length inst.stack.items - n) inst.stack.items) ≡ length inst.stack.items - n =
    length-take-le (length inst.stack.items - n) inst.stack.items (omega arith) in
    record {
      slots = λ i w.
          let w' : i < length inst.stack.items = omega (arith, w, len) in
          let at : above + length (take (length inst.stack.items - n) inst.stack.items) - i ≡ sp + length inst.stack.items - i =
          omega (arith, len, is, few, w) in
          rw (get_or-take (length inst.stack.items - n) inst.stack.items i (Range (ends 0 255)) (omega (arith, w, len)), at) (h.slots i w');
      cells = h.cells;
      ranges = h.ranges;
      depth = omega (arith, h.depth, is, len, few);
    }
