-- What a certificate's limits and orders give of its header and of each instance.
use Rattle.uz_rules.proofs.Common.{inl, inr, ◌≡◌, ◌⊎◌, ℕ, suc, ◌+◌, ◌<◌, ◌≤◌, Bool, true, false, List, [], ◌∷◌, All, length, map, filter}
use Rattle.uz_rules.proofs.Common.{Some, None, nat_le, nat_lt, nat_eq, refl, sym, ◌∙◌, subst, arith, if◌then◌else◌, ◌&&◌, ℤ, pos, negsuc}
use Rattle.uz_rules.proofs.Common.{◌+ℤ◌, ◌*ℤ◌, slice_get, slice_index_or, option_and_then, nat_tests, slice_get_cases, option_and_then_some}
use Rattle.uz_rules.proofs.Common.{length-map, Ends, Kind, Main, Handler, Alone, Bit, OldBit, Cell, Head, Instance, Point, Cert, length_of}
use Rattle.uz_rules.proofs.Common.{start_of, level_at, val_of, cell_span, is_in_box, clock_below, clock_at, instance_of, instance_at_clock}
use Rattle.uz_rules.proofs.Common.{instance_in, instance_at, WellFormed, is_main, depth_limit, range_from, cell_range, all_flags, is_old}
use Rattle.uz_rules.proofs.Common.{HeadFits, InstanceLimits, LimitsGive, and_parts, same_Some, HeaderFits, BitFits, PointFits}
use Rattle.uz_schedule.specs.declared.kinds.Owner.TheVariants.{Main as MainOwner}
use Rattle.uz_schedule.specs.Tracked.{tracked, depth_of as kind_depth}
use Rattle.uz_schedule.proofs.Starts.{length_within}

-- Elements

no_some : {A B : Type 0} (a : A) → Some a ≡ None → B
no_some a e = absurd cc

pub element_holds : {A : Type 0} (P : A → Type 0) (xs : List A) (k : ℕ) (x : A) → slice_get xs k ≡ Some x → All P xs → P x
element_holds P xs k x e h = elim (slice_get_cases xs k).1 [
  | inl t ↦ subst P (t.3 ∙ same_Some t.0 x (sym t.2 ∙ e)) (h k t.0 t.1)
  | inr t ↦ no_some x (sym e ∙ t.1)
]

-- The header

record CellAt (cells : List Cell) (at : ℕ) : Type 0 where
  place : ℕ
  low : place < length cells
  is : (d : Cell) → (slice_index_or cells place d).at ≡ at

cell_at : (cells : List Cell) (at : ℕ) (e : Ends) → range_from cells at ≡ Some e → CellAt cells at
cell_at [] at e h = absurd cc
cell_at (c ∷ cells) at e h = by_case (nat_eq c.at at) refl h (λ f. cell_at cells at e f)
  where
    by_case : (t : Bool) → nat_eq c.at at ≡ t → (if t then Some c.range else range_from cells at) ≡ Some e
        → (range_from cells at ≡ Some e → CellAt cells at) → CellAt (c ∷ cells) at
    by_case true q h more = record { place = 0; low = omega arith; is = λ d. grind (arith, nat_tests) }
    by_case false q h more = let m = more h in record { place = suc m.place; low = omega (arith, m.low); is = λ d. m.is d }

cell_fits : (head : Head) (at : ℕ) (e : Ends) → HeaderFits head → cell_range head at ≡ Some e → (256 ≤ at) × (at ≤ 4351)
    × ((at < head.lo) ⊎ (head.hi < at))
cell_fits head at e h q =
    let c = cell_at head.cells.items at e q in
    let d : Cell = record { at = 0; owner = MainOwner; range = e } in
    let f = h.cells c.place d c.low in
    let is : (slice_index_or head.cells.items c.place d).at ≡ at = c.is d in
    (subst (λ n. 256 ≤ n) is f.low, subst (λ n. n ≤ 4351) is f.high, subst (λ n. (n < head.lo) ⊎ (head.hi < n)) is f.off_stack)

pub head_fits : (head : Head) → HeaderFits head → HeadFits head
head_fits head h = record {
  low = h.stack.low;
  high = h.stack.high;
  room = omega (arith, h.stack.room, h.stack.order);
  cells_ram = λ at e q. (let c = cell_fits head at e h q in (c.0, c.1));
  cells_off = λ at e q. (cell_fits head at e h q).2;
}

-- An instance

depth_same : (head : Head) (kind : Kind) → depth_limit head kind ≡ kind_depth head kind
depth_same head Main = refl
depth_same head kind = refl

depth_few : (head : Head) (kind : Kind) → HeaderFits head → depth_limit head kind ≤ 32
depth_few head Main h = h.stack.main
depth_few head Handler h = h.stack.handler
depth_few head Alone h = h.stack.main

old_is_handlers : (kind : Kind) (flags : List Bit) → length flags ≡ 7 → All (BitFits kind) flags → all_flags is_old flags ≡ true
    → is_main kind ≡ false
old_is_handlers Main [] n h e = absurd (omega (arith, n))
old_is_handlers Main (OldBit ∷ flags) n h e = let never : Main ≡ Handler = h 0 OldBit (omega arith) in absurd cc
old_is_handlers Main (f ∷ flags) n h e = absurd cc
old_is_handlers kind flags n h e = refl

clock_low : (length : ℕ) (z : ℤ) (clock : ℕ) → clock_below length z ≡ Some clock → clock < length
clock_low length (pos k) clock e = by_case (nat_lt k length) refl e
  where
    by_case : (t : Bool) → nat_lt k length ≡ t → (if t then Some k else None) ≡ Some clock → clock < length
    by_case true q e = let is : k ≡ clock = same_Some k clock e in grind (arith, nat_tests)
    by_case false q e = absurd cc
clock_low length (negsuc k) clock e = absurd cc

line_low : (p : Point) (l c : ℕ) → is_in_box p l c ≡ true → l ≤ p.l1
line_low p l c e =
    let lines = (and_parts (nat_le p.l0 l && nat_le l p.l1) _ e).0 in
    let t = (and_parts (nat_le p.l0 l) _ lines).1 in
    grind (arith, nat_tests)

filter_few : {A : Type 0} (test : A → Bool) (xs : List A) → length (filter test xs) ≤ length xs
filter_few test [] = omega arith
filter_few test (x ∷ xs) = by_case (test x) (filter_few test xs)
  where
    by_case : (t : Bool) → length (filter test xs) ≤ length xs → length (if t then x ∷ filter test xs else filter test xs) ≤ suc (length xs)
    by_case true h = omega (arith, h)
    by_case false h = omega (arith, h)

tracked_few : (head : Head) (kind : Kind) → length (tracked head kind) ≤ length head.cells.items
tracked_few head kind = filter_few _ head.cells.items

point_limits : (cert : Cert) (p : Point) (l c clock level : ℕ) → WellFormed cert → PointFits cert.head (length cert.schedule.lines)
    (length cert.points) p → l ≤ p.l1 → clock < length_of cert.schedule l
    → InstanceLimits cert (instance_of p l c clock level)
point_limits cert p l c clock level fits f low early =
    let slots : length (map (val_of l c) p.stack.items) ≡ length p.stack.items = length-map p.stack.items (val_of l c) in
    let cells : length (map (cell_span l c) p.cells.items) ≡ length p.cells.items = length-map p.cells.items (cell_span l c) in
    let deep : length p.stack.items ≤ depth_limit cert.head p.kind = subst (λ n. length p.stack.items ≤ n)
    (sym (depth_same cert.head p.kind)) f.memory.slots in
    record {
      pc = f.pc;
      line = omega (arith, low, f.box.line);
      short = (length_within cert.schedule fits.schedule l).1;
      clock = early;
      limit = depth_few cert.head p.kind fits.head;
      slots = omega (arith, slots, deep, depth_few cert.head p.kind fits.head);
      cells = omega (arith, cells, f.memory.cell_count, tracked_few cert.head p.kind, fits.head.few);
      fits = record {
        flags = f.core.flag_count;
        old = old_is_handlers p.kind p.flags f.core.flag_count f.core.flags;
        depth = omega (arith, slots, deep);
      };
    }

pub instance_limits : (cert : Cert) (id l c : ℕ) (inst : Instance) → WellFormed cert → instance_at cert id l c ≡ Some inst → InstanceLimits
    cert inst
instance_limits cert id l c inst fits e =
    option_and_then_some (λ p. instance_in cert.schedule p l c) (slice_get cert.points id) inst e (λ p got here.
    let f = element_holds (PointFits cert.head (length cert.schedule.lines) (length cert.points)) cert.points id p got fits.points.each in
    by_box p f (is_in_box p l c) refl here)
  where
    by_box : (p : Point) → PointFits cert.head (length cert.schedule.lines) (length cert.points) p → (t : Bool) → is_in_box p l c ≡ t
        → (if t then option_and_then (instance_at_clock cert.schedule p l c) (clock_at cert.schedule p l c) else None) ≡ Some inst
        → InstanceLimits cert inst
    by_box p f false q e = absurd cc
    by_box p f true q e =
        option_and_then_some (instance_at_clock cert.schedule p l c) (clock_at cert.schedule p l c) inst e (λ clock at here.
        option_and_then_some (λ level. Some (instance_of p l c clock level)) (level_at cert.schedule (start_of cert.schedule l + clock))
        inst here (λ level is there.
        subst (InstanceLimits cert) (same_Some (instance_of p l c clock level) inst there)
        (point_limits cert p l c clock level fits f (line_low p l c q)
        (clock_low (length_of cert.schedule l) (pos p.clock +ℤ p.slope *ℤ pos c) clock at))))

pub limits_give : LimitsGive
limits_give cert fits = (head_fits cert.head fits.head, λ id l c inst e. instance_limits cert id l c inst fits e)
