-- Some state meets the entry condition.
use Rattle.uz_check.proofs.Common.{cond_both, All-contains, and_right, and_parts, ◌≡◌, ◌⊎◌, inl, inr, All, Contains, ℕ, zero, suc, ◌+◌, ◌-◌}
use Rattle.uz_check.proofs.Common.{◌*◌, ◌/◌, ◌%◌, ◌^◌, ◌<◌, ◌≤◌, Bool, true, false, cond, eqb, leb, ltb, List, [], ◌∷◌, filter, length, map}
use Rattle.uz_check.proofs.Common.{get_or, refl, sym, ◌∙◌, ap, subst, arith, Option, Some, None, unwrap_or, slice_index, ◌&&◌, nat_eq}
use Rattle.uz_check.proofs.Common.{AllByRecursion, bit_at, nat_cmp, FinMap, leb-true, nat_tests, eqb_tells, length-map, All-tail, IsFlash}
use Rattle.uz_check.proofs.Common.{Ends, Bit, Zero, One, Free, OldBit, Response, Four, Five, Kind, Main, Handler, Alone, Owner, MainOwner}
use Rattle.uz_check.proofs.Common.{HandlerOwner, Cell, Rest, Cert, length_of, start_of, level_at, or_else, response_clocks}
use Rattle.uz_check.proofs.Common.{kind_tracks as tracks, tracked, bit_is_set, IsByte, Timer, PadHistory, State, IsState, IsSteady, IsIn}
use Rattle.uz_check.proofs.Common.{EntryBit as BitHolds, AllHold as CellsHold, ends_at, Begins, EntryCondition, depth_limit}
use Rattle.std.proofs.lemmas.List.Elements.{filter_passes}
use Rattle.std.specs.List.{range_with_len}
use Rattle.std.proofs.lemmas.Nat.Bits.{bit_at-suc, bit_at_lowest}
use Rattle.std.proofs.lemmas.List.{get_or-map}
use Rattle.std.proofs.lemmas.List.FromFn.{length-map-range_with_len, get_or-map-range_with_len}
use Rattle.uz_schedule.specs.Limits.{rises_from}
use Rattle.uz_core.specs.Arithmetic.{bit_value}
use Rattle.uz_core.specs.Timer.{IsTimer, timer_at_reset}
use Rattle.uz_core.specs.Turn.{history_at_reset}
use Rattle.uz_check.proofs.LevelFound.{level_found}
use Rattle.uz_console.specs.Entry.{whole_byte, flag_at}
use Rattle.uz_check.proofs.Fits.{IsByteRange, Limits, EntryLimits, HasRest}
use Rattle.uz_check.proofs.Fitting.{line_short}
use Rattle.uz_check.proofs.Ram.{other}
use Rattle.uz_check.proofs.Cells.{tracked_there}

-- Bytes by a function of the address

ram_of : (ℕ → ℕ) → List ℕ
ram_of f = map f (range_with_len 0 4352)

ram_length : (f : ℕ → ℕ) → length (ram_of f) ≡ 4352
unfolding ram_of
ram_length f = length-map-range_with_len f 0 4352

ram_at : (f : ℕ → ℕ) (a : ℕ) → a < 4352 → slice_index (ram_of f) a ≡ f a
unfolding ram_of
ram_at f a h = get_or-map-range_with_len f 0 4352 a a 0 h (omega arith)

all_mapped : (f : ℕ → ℕ) (xs : List ℕ) → ((a : ℕ) → f a < 256) → AllByRecursion IsByte (map f xs)
all_mapped f [] h = tt
all_mapped f (x ∷ xs) h = (h x, all_mapped f xs h)

ram_bytes : (f : ℕ → ℕ) → ((a : ℕ) → f a < 256) → AllByRecursion IsByte (ram_of f)
unfolding ram_of
ram_bytes f h = all_mapped f (range_with_len 0 4352) h

-- A number by its bits

packed : (ℕ → Bool) → ℕ → ℕ
packed b zero = 0
packed b (suc n) = bit_value (b 0) + 2 * packed (λ k. b (suc k)) n

bit_below : (b : Bool) → bit_value b < 2
bit_below true = omega arith
bit_below false = omega arith

bit_tells : (b : Bool) → nat_eq (bit_value b) 1 ≡ b
bit_tells true = refl
bit_tells false = refl

packed_below : (b : ℕ → Bool) (n : ℕ) → packed b n < 2 ^ n
unfolding packed
packed_below b zero = omega arith
packed_below b (suc n) =
    let rest = packed_below (λ k. b (suc k)) n in
    let double : 2 ^ suc n ≡ 2 ^ n + 2 ^ n = omega arith in
    omega (arith, rest, double, bit_below (b 0))

packed_bit : (b : ℕ → Bool) (n k : ℕ) → k < n → bit_is_set (packed b n) k ≡ b k
unfolding packed
packed_bit b zero k h = absurd (omega (arith, h))
packed_bit b (suc n) zero h =
    let low : (bit_value (b 0) + 2 * packed (λ k. b (suc k)) n) % 2 ≡ bit_value (b 0) = omega (arith, bit_below (b 0)) in
    ap (λ x. nat_eq x 1) (bit_at_lowest (bit_value (b 0) + 2 * packed (λ k. b (suc k)) n) ∙ low) ∙ bit_tells (b 0)
packed_bit b (suc n) (suc k) h =
    let half : (bit_value (b 0) + 2 * packed (λ k. b (suc k)) n) / 2 ≡ packed (λ k. b (suc k)) n = omega (arith, bit_below (b 0)) in
    ap (λ x. nat_eq x 1) (bit_at-suc (bit_value (b 0) + 2 * packed (λ k. b (suc k)) n) k ∙ ap (λ x. bit_at x k) half)
    ∙ packed_bit (λ k. b (suc k)) n k (omega (arith, h))

-- SREG by flags and I

is_one : Bit → Bool
is_one Zero = false
is_one One = true
is_one Free = false
is_one OldBit = false

flag_holds : (x : Bit) (v : Bool) → v ≡ is_one x → BitHolds x v
unfolding is_one
flag_holds Zero v e = e
flag_holds One v e = e
flag_holds x v e = tt

flag_bits : List Bit → Bool → ℕ → Bool
flag_bits flags i k = cond (eqb k 7) i (is_one (flag_at flags k))

flag_bits_is : (flags : List Bit) (i : Bool) (k : ℕ) → k < 7 → flag_bits flags i k ≡ is_one (flag_at flags k)
unfolding flag_bits
flag_bits_is flags i k h = let e : eqb k 7 ≡ false = grind (arith, nat_tests) in rw e refl

flag_bits_i : (flags : List Bit) (i : Bool) → flag_bits flags i 7 ≡ i
unfolding flag_bits
flag_bits_i flags i = refl

sreg_of : List Bit → Bool → ℕ
sreg_of flags i = packed (flag_bits flags i) 8

sreg_byte : (flags : List Bit) (i : Bool) → sreg_of flags i < 256
unfolding sreg_of
sreg_byte flags i = packed_below (flag_bits flags i) 8

sreg_flags : (flags : List Bit) (i : Bool) (k : ℕ) → k < 7 → BitHolds (flag_at flags k) (bit_is_set (sreg_of flags i) k)
unfolding sreg_of
sreg_flags flags i k h = flag_holds (flag_at flags k) (bit_is_set (packed (flag_bits flags i) 8) k)
    (packed_bit (flag_bits flags i) 8 k (omega (arith, h)) ∙ flag_bits_is flags i k h)

sreg_i : (flags : List Bit) (i : Bool) → bit_is_set (sreg_of flags i) 7 ≡ i
unfolding sreg_of
sreg_i flags i = packed_bit (flag_bits flags i) 8 7 (omega arith) ∙ flag_bits_i flags i

-- Cells by their addresses

abbrev addresses : List Cell → List ℕ
addresses cells = map (λ c. c.at) cells

weaken : (m n : ℕ) (xs : List ℕ) → m ≤ n → rises_from n xs ≡ true → rises_from m xs ≡ true
weaken m n [] h e = refl
weaken m n (x ∷ xs) h e =
    let both = and_parts (leb n x) (rises_from (x + 1) xs) e in
    let low : leb m x ≡ true = let b = leb-true n x both.0 in grind (arith, nat_tests) in
    rw (low, both.1) refl

above : (n : ℕ) (cells : List Cell) (d : Cell) → rises_from n (addresses cells) ≡ true → Contains cells d → n ≤ d.at
above n [] d e (i, below, is) = absurd (omega (arith, below))
above n (c ∷ cells) d e (zero, below, is) =
    let both = and_parts (leb n c.at) _ e in
    let same : c ≡ d = is in
    subst (λ (x : Cell). n ≤ x.at) same (leb-true n c.at both.0)
above n (c ∷ cells) d e (suc i, below, is) =
    let both = and_parts (leb n c.at) _ e in
    let low = leb-true n c.at both.0 in
    let rest = above (c.at + 1) cells d both.1 (i, omega (arith, below), is) in
    omega (arith, rest, low)

rises_filtered : (p : Cell → Bool) (n : ℕ) (cells : List Cell) → rises_from n (addresses cells) ≡ true → rises_from n
    (addresses (filter p cells)) ≡ true
rises_filtered p n [] e = refl
rises_filtered p n (c ∷ cells) e =
    let both = and_parts (leb n c.at) (rises_from (c.at + 1) (addresses cells)) e in
    let rest = rises_filtered p (c.at + 1) cells both.1 in
    chosen (p c) both.0 rest (leb-true n c.at both.0)
  where
    chosen : (b : Bool) → leb n c.at ≡ true → rises_from (c.at + 1) (addresses (filter p cells)) ≡ true → n ≤ c.at
        → rises_from n (addresses (cond b (c ∷ filter p cells) (filter p cells))) ≡ true
    chosen true low rest h = rw (low, rest) refl
    chosen false low rest h = weaken n (c.at + 1) (addresses (filter p cells)) (omega (arith, h)) rest

-- where no two cells have one address, cells at one address are one
one_cell : (n : ℕ) (cells : List Cell) (c d : Cell) → rises_from n (addresses cells) ≡ true → Contains cells c → Contains cells d
    → c.at ≡ d.at → c ≡ d
one_cell n [] c d e (i, below, is) has same = absurd (omega (arith, below))
one_cell n (x ∷ cells) c d e (zero, below, is) (zero, under, it) same = sym is ∙ it
one_cell n (x ∷ cells) c d e (zero, below, is) (suc j, under, it) same =
    let both = and_parts (leb n x.at) _ e in
    let up = above (x.at + 1) cells d both.1 (j, omega (arith, under), it) in
    let here : x.at ≡ c.at = ap (λ (q : Cell). q.at) is in
    absurd (omega (arith, up, here, same))
one_cell n (x ∷ cells) c d e (suc i, below, is) (zero, under, it) same =
    let both = and_parts (leb n x.at) _ e in
    let up = above (x.at + 1) cells c both.1 (i, omega (arith, below), is) in
    let here : x.at ≡ d.at = ap (λ (q : Cell). q.at) it in
    absurd (omega (arith, up, here, same))
one_cell n (x ∷ cells) c d e (suc i, below, is) (suc j, under, it) same =
    let both = and_parts (leb n x.at) _ e in
    one_cell (x.at + 1) cells c d both.1 (i, omega (arith, below), is) (j, omega (arith, under), it) same

-- the least byte of the cell at an address
abbrev found : List Cell → List Ends → ℕ → Option ℕ
found [] spans a = None
found (c ∷ cells) [] a = None
found (c ∷ cells) (r ∷ spans) a = cond (eqb c.at a) (Some r.lo) (found cells spans a)

record There (cells : List Cell) (a : ℕ) : Type 0 where
  cell : Cell
  has : Contains cells cell
  at : cell.at ≡ a

found_there : (cells : List Cell) (spans : List Ends) (a v : ℕ) → found cells spans a ≡ Some v → There cells a
found_there (c ∷ cells) (r ∷ spans) a v e =
    elim (eqb_tells c.at a) [
      | inl t ↦ record { cell = c; has = (0, omega arith, refl); at = t.1 }
      | inr t ↦
          let rest = found_there cells spans a v (rw t.0 at e) in
          record { cell = rest.cell; has = (suc rest.has.0, omega (arith, rest.has.1), rest.has.2); at = rest.at }
    ]
found_there cells spans a v e = absurd cc

found_byte : (cells : List Cell) (spans : List Ends) (a v : ℕ) → All IsByteRange spans → found cells spans a ≡ Some v → v < 256
found_byte (c ∷ cells) (r ∷ spans) a v h e =
    elim (eqb_tells c.at a) [
      | inl t ↦
          let first : IsByteRange r = h 0 r (omega arith) in
          let is : Some r.lo ≡ Some v = rw t.0 at e in
          let same : r.lo ≡ v = cc is in
          omega (arith, first.order, first.byte, same)
      | inr t ↦ found_byte cells spans a v (All-tail IsByteRange r spans h) (rw t.0 at e)
    ]
found_byte cells spans a v h e = absurd cc

cells_from : (cells : List Cell) (spans : List Ends) (n : ℕ) (bytes : List ℕ) → rises_from n (addresses cells) ≡ true → All IsByteRange
    spans → ((a v : ℕ) → found cells spans a ≡ Some v → slice_index bytes a ≡ v) → CellsHold cells spans bytes
cells_from [] spans n bytes e h f = tt
cells_from (c ∷ cells) [] n bytes e h f = tt
cells_from (c ∷ cells) (r ∷ spans) n bytes e h f =
    let both = and_parts (leb n c.at) (rises_from (c.at + 1) (addresses cells)) e in
    let itself : eqb c.at c.at ≡ true = grind (arith, nat_tests) in
    let first : IsByteRange r = h 0 r (omega arith) in
    let is : slice_index bytes c.at ≡ r.lo = f c.at r.lo (rw itself refl) in (
      (omega (arith, is), omega (arith, is, first.order)),
      cells_from cells spans (c.at + 1) bytes both.1 (All-tail IsByteRange r spans h) (λ a v g.
          let there = found_there cells spans a v g in
          let up = above (c.at + 1) cells there.cell both.1 there.has in
          let apart : eqb c.at a ≡ false = let q = there.at in grind (arith, nat_tests) in
          f a v (rw apart g)),
    )

-- The bytes of the data space: the sync level, the stack, and cells

memory : ℕ → ℕ → ℕ → List Ends → (ℕ → Option ℕ) → ℕ → ℕ
memory level hi depth stack cell a = cond (eqb a 0x25) level (cond (leb a hi && ltb hi (a + depth)) (ends_at stack (hi - a)).lo
    (unwrap_or (cell a) 0))

memory_level : (level hi depth : ℕ) (stack : List Ends) (cell : ℕ → Option ℕ) → memory level hi depth stack cell 0x25 ≡ level
unfolding memory
memory_level level hi depth stack cell = refl

memory_stack : (level hi depth : ℕ) (stack : List Ends) (cell : ℕ → Option ℕ) (a : ℕ) → 256 ≤ a → a ≤ hi → hi < a + depth → memory level hi
    depth stack cell a ≡ (ends_at stack (hi - a)).lo
unfolding memory
memory_stack level hi depth stack cell a ram low high =
    let x : leb a hi ≡ true = grind (arith, nat_tests) in
    let y : ltb hi (a + depth) ≡ true = grind (arith, nat_tests) in
    rw (other a 0x25 (omega (arith, ram)), x, y) refl

memory_cell : (level hi depth : ℕ) (stack : List Ends) (cell : ℕ → Option ℕ) (a v : ℕ) → 256 ≤ a → (a + depth ≤ hi) ⊎ (hi < a)
    → cell a ≡ Some v → memory level hi depth stack cell a ≡ v
unfolding memory
memory_cell level hi depth stack cell a v ram (inl low) e =
    let y : ltb hi (a + depth) ≡ false = grind (arith, nat_tests) in
    rw (other a 0x25 (omega (arith, ram)), y, and_right (leb a hi) false refl, e) refl
memory_cell level hi depth stack cell a v ram (inr high) e =
    let x : leb a hi ≡ false = grind (arith, nat_tests) in
    rw (other a 0x25 (omega (arith, ram)), x, e) refl

low_byte : (xs : List Ends) (i : ℕ) → All IsByteRange xs → ((ends_at xs i).lo ≤ (ends_at xs i).hi) × ((ends_at xs i).lo < 256)
low_byte [] i h = (omega arith, omega arith)
low_byte (x ∷ xs) zero h = let first : IsByteRange x = h 0 x (omega arith) in (first.order, omega (arith, first.order, first.byte))
low_byte (x ∷ xs) (suc i) h = low_byte xs i (All-tail IsByteRange x xs h)

picked : (o : Option ℕ) → ((v : ℕ) → o ≡ Some v → v < 256) → unwrap_or o 0 < 256
picked None h = omega arith
picked (Some v) h = h v refl

memory_byte : (level hi depth : ℕ) (stack : List Ends) (cell : ℕ → Option ℕ) → level < 256 → All IsByteRange stack
    → ((a v : ℕ) → cell a ≡ Some v → v < 256) → (a : ℕ) → memory level hi depth stack cell a < 256
unfolding memory
memory_byte level hi depth stack cell l s c a =
    cond_both (eqb a 0x25) level _ (λ b. b < 256) (λ _. l) (λ _. cond_both (leb a hi && ltb hi (a + depth)) _ _ (λ b. b < 256)
    (λ _. (low_byte stack (hi - a) s).1) (λ _. picked (cell a) (c a)))

-- The core: each register at the low end of its range

abbrev lows : List Ends → List ℕ
lows ranges = map (λ e. e.lo) ranges

lows_bytes : (ranges : List Ends) → All IsByteRange ranges → AllByRecursion IsByte (lows ranges)
lows_bytes [] h = tt
lows_bytes (x ∷ xs) h = let first : IsByteRange x = h 0 x (omega arith) in
    (omega (arith, first.order, first.byte), lows_bytes xs (All-tail IsByteRange x xs h))

lows_in : (ranges : List Ends) (r : ℕ) → r < length ranges → All IsByteRange ranges → IsIn (ends_at ranges r) (slice_index (lows ranges) r)
lows_in ranges r h bytes =
    let is : get_or (lows ranges) r 0 ≡ (ends_at ranges r).lo = get_or-map (λ e. e.lo) ranges r whole_byte 0 h in
    let low = low_byte ranges r bytes in
    (omega (arith, is), omega (arith, is, low.0))

-- The state

abbrev state_of : FinMap nat_cmp ℕ → Cert → Bool → Timer → List ℕ → State PadHistory
state_of image cert i timer bytes =
    record {
      image = image;
      core = record {
        pc = cert.entry.pc;
        registers = lows cert.entry.regs;
        sreg = sreg_of cert.entry.flags i;
        sp = cert.head.hi - length cert.entry.stack.items;
      };
      space = record { bytes = bytes; timer = timer; pads = history_at_reset [] };
      response = response_clocks cert.head.irq;
      is_owed = false;
      clock = 0;
    }

four_or_five : (r : Response) → (response_clocks r ≡ 4) ⊎ (response_clocks r ≡ 5)
four_or_five Four = inl refl
four_or_five Five = inr refl

abbrev Enters : FinMap nat_cmp ℕ → Cert → Type 0
Enters image cert = (s : State PadHistory) × (p : ℕ) × IsState s × (s.image ≡ image) × EntryCondition cert s p

module _ (image : FinMap nat_cmp ℕ) (cert : Cert) (flash : IsFlash image) (limits : Limits cert) (entry : EntryLimits cert)
    (depth : length cert.entry.stack.items ≤ cert.head.main) where
  abbrev n : ℕ
  n = length cert.entry.stack.items

  abbrev byte_of : ℕ → (ℕ → Option ℕ) → ℕ → ℕ
  byte_of level cell = memory level cert.head.hi n cert.entry.stack.items cell

  cell_place : (c : Cell) → Contains cert.head.cells.items c → (c.at + n ≤ cert.head.hi) ⊎ (cert.head.hi < c.at)
  cell_place c has =
      elim (limits.head.off c has) [
        | inl low ↦ inl (omega (arith, low, depth, limits.head.order, limits.head.room))
        | inr high ↦ inr high
      ]

  -- cells of the header whose bytes the function gives
  held : (level : ℕ) (cell : ℕ → Option ℕ) (kind : Kind) (spans : List Ends) → All IsByteRange spans
      → ((a v : ℕ) → found (tracked cert.head kind) spans a ≡ Some v → cell a ≡ Some v)
      → CellsHold (tracked cert.head kind) spans (ram_of (byte_of level cell))
  held level cell kind spans bytes gives =
      cells_from (tracked cert.head kind) spans 0 (ram_of (byte_of level cell))
      (rises_filtered (λ c. tracks kind c.owner) 0 cert.head.cells.items entry.rise) bytes (λ a v e.
      let there = found_there (tracked cert.head kind) spans a v e in
      let has = tracked_there cert.head kind there.cell there.has in
      let range = limits.head.ram there.cell has in
      let place : (a + n ≤ cert.head.hi) ⊎ (cert.head.hi < a) = subst (λ b. (b + n ≤ cert.head.hi) ⊎ (cert.head.hi < b)) there.at
      (cell_place there.cell has) in
      ram_at (byte_of level cell) a (omega (arith, there.at, range.1))
      ∙ memory_cell level cert.head.hi n cert.entry.stack.items cell a v (omega (arith, there.at, range.0)) place (gives a v e))

  -- the state with these bytes enters
  enters_by : (i : Bool) (timer : Timer) (p level : ℕ) (cell : ℕ → Option ℕ) → IsTimer timer → level ≤ 1
      → level_at cert.schedule p ≡ Some level → ((a v : ℕ) → cell a ≡ Some v → v < 256)
      → ((a v : ℕ) → found (tracked cert.head cert.entry.kind) cert.entry.cells.items a ≡ Some v → cell a ≡ Some v)
      → Begins cert.entry.kind cert (state_of image cert i timer (ram_of (byte_of level cell))) p → Enters image cert
  enters_by i timer p level cell timed small level_is bytes gives begins =
      let m = byte_of level cell in
      let few : n ≤ cert.head.hi = omega (arith, depth, limits.head.order, limits.head.room) in
      let sync : slice_index (ram_of m) 0x25 ≡ level = ram_at m 0x25 (omega arith) ∙ memory_level level cert.head.hi n
      cert.entry.stack.items cell in
      let bit : slice_index (ram_of m) 0x25 % 2 ≡ level = omega (arith, sync, small) in
      let slot : (k : ℕ) → k < n → slice_index (ram_of m) (cert.head.hi - n + n - k) ≡ (ends_at cert.entry.stack.items k).lo = λ k b.
      let place : cert.head.hi - n + n - k ≡ cert.head.hi - k = omega (arith, few, b) in
      let back : cert.head.hi - (cert.head.hi - k) ≡ k = omega (arith, b, depth, limits.head.order, limits.head.room) in
      ap (slice_index (ram_of m)) place ∙ (ram_at m (cert.head.hi - k) (omega (arith, limits.head.high))
      ∙ (memory_stack level cert.head.hi n cert.entry.stack.items cell (cert.head.hi - k)
      (omega (arith, b, depth, limits.head.low, limits.head.order, limits.head.room)) (omega arith)
      (omega (arith, b, depth, limits.head.order, limits.head.room))
      ∙ ap (λ j. (ends_at cert.entry.stack.items j).lo) back)) in (
        state_of image cert i timer (ram_of m),
        p,
        record {
          image = flash;
          core = record {
            count = length-map cert.entry.regs (λ e. e.lo) ∙ entry.registers;
            registers = lows_bytes cert.entry.regs entry.bytes;
            sreg = sreg_byte cert.entry.flags i;
            sp = omega (arith, limits.head.high);
            pc = entry.pc;
          };
          space = record {
            size = ram_length m;
            bytes = ram_bytes m (memory_byte level cert.head.hi n cert.entry.stack.items cell (omega (arith, small)) entry.stack bytes);
            timer = timed;
          };
          response = four_or_five cert.head.irq;
        },
        refl,
        record {
          pc = refl;
          registers = λ r b. lows_in cert.entry.regs r (omega (arith, b, entry.registers)) entry.bytes;
          flags = λ k b. sreg_flags cert.entry.flags i k b;
          stack = λ k b.
              let is = slot k b in
              let low = low_byte cert.entry.stack.items k entry.stack in
              (omega (arith, is), omega (arith, is, low.0));
          cells = held level cell cert.entry.kind cert.entry.cells.items entry.cells gives;
          sp = omega (arith, few);
          level = level_is ∙ ap (λ v. Some v) (sym bit);
          response = refl;
          begins = begins;
        },
      )

either_byte : (a b : Option ℕ) (v : ℕ) → ((u : ℕ) → a ≡ Some u → u < 256) → ((u : ℕ) → b ≡ Some u → u < 256) → or_else a b ≡ Some v
    → v < 256
either_byte None b v h g e = g v e
either_byte (Some u) b v h g e = h v e

first_of_two : (a b : Option ℕ) (v : ℕ) → a ≡ Some v → or_else a b ≡ Some v
first_of_two a b v e = rw e refl

second_of_two : (a b : Option ℕ) (v : ℕ) → ((u : ℕ) → a ≡ Some u → ⊥) → b ≡ Some v → or_else a b ≡ Some v
second_of_two None b v h e = e
second_of_two (Some u) b v h e = absurd (h u refl)

not_both : (o : Owner) → tracks Main o ≡ true → tracks Handler o ≡ true → ⊥
not_both MainOwner e f = absurd cc
not_both HandlerOwner e f = absurd cc

-- an address isn't main's and the handler's
apart : (cert : Cert) (a u v : ℕ) (xs ys : List Ends) → EntryLimits cert → found (tracked cert.head Main) xs a ≡ Some u
    → found (tracked cert.head Handler) ys a ≡ Some v → ⊥
apart cert a u v xs ys entry e f =
    let mains = found_there (tracked cert.head Main) xs a u e in
    let handlers = found_there (tracked cert.head Handler) ys a v f in
    let same : mains.cell ≡ handlers.cell = one_cell 0 cert.head.cells.items mains.cell handlers.cell entry.rise
    (tracked_there cert.head Main mains.cell mains.has) (tracked_there cert.head Handler handlers.cell handlers.has)
    (mains.at ∙ sym handlers.at) in
    let own : (k : Kind) (c : Cell) → Contains (tracked cert.head k) c → tracks k c.owner ≡ true = λ k c has.
    All-contains (λ (d : Cell). tracks k d.owner ≡ true) (tracked cert.head k) c
    (filter_passes (λ (d : Cell). tracks k d.owner) cert.head.cells.items) has in
    not_both mains.cell.owner (own Main mains.cell mains.has) (ap (λ (c : Cell). tracks Handler c.owner) same
    ∙ own Handler handlers.cell handlers.has)

alone_enters : (image : FinMap nat_cmp ℕ) (cert : Cert) → IsFlash image → Limits cert → EntryLimits cert → IsSteady cert.schedule
    → cert.entry.kind ≡ Alone → Enters image cert
alone_enters image cert flash limits entry steady kind =
    let depth : length cert.entry.stack.items ≤ cert.head.main = subst (λ k. length cert.entry.stack.items ≤ depth_limit cert.head k) kind
    entry.slots in
    let p = start_of cert.schedule cert.entry.line + cert.entry.clock in
    let level = level_found cert.schedule limits.schedule steady p in
    let cell : ℕ → Option ℕ = λ a. found (tracked cert.head cert.entry.kind) cert.entry.cells.items a in
    let timed : IsTimer timer_at_reset = record {
      count = omega arith;
      top = omega arith;
      temp = omega arith;
      interrupt_mask = omega arith;
      control_a = omega arith;
      control_b = omega arith;
    } in
    let s = state_of image cert false timer_at_reset (ram_of (byte_of image cert flash limits entry depth level.0 cell)) in
    let begins : Begins Alone cert s p = record { interrupts = sreg_i cert.entry.flags false; place = refl } in
    enters_by image cert flash limits entry depth false timer_at_reset p level.0 cell timed level.1 level.2
    (λ a v e. found_byte (tracked cert.head cert.entry.kind) cert.entry.cells.items a v entry.cells e) (λ a v e. e)
    (subst (λ k. Begins k cert s p) (sym kind) begins)

main_enters : (image : FinMap nat_cmp ℕ) (cert : Cert) → IsFlash image → Limits cert → EntryLimits cert → IsSteady cert.schedule
    → cert.entry.kind ≡ Main → (rest : Rest) → Contains cert.rests rest → rest.clock < length_of cert.schedule rest.line → Enters image cert
main_enters image cert flash limits entry steady kind rest is_rest within =
    let depth : length cert.entry.stack.items ≤ cert.head.main = subst (λ k. length cert.entry.stack.items ≤ depth_limit cert.head k) kind
    entry.slots in
    let short = line_short cert.schedule rest.line limits.schedule (limits.rests rest is_rest).line in
    let p = start_of cert.schedule rest.line + rest.clock in
    let level = level_found cert.schedule limits.schedule steady p in
    let own : ℕ → Option ℕ = λ a. found (tracked cert.head Main) cert.entry.cells.items a in
    let others : ℕ → Option ℕ = λ a. found (tracked cert.head Handler) rest.cells.items a in
    let cell : ℕ → Option ℕ = λ a. or_else (own a) (others a) in
    let timer : Timer = record {
      count = rest.clock;
      top = length_of cert.schedule rest.line - 1;
      matched = false;
      temp = 0;
      interrupt_mask = 2;
      control_a = 0;
      control_b = 9;
    } in
    let timed : IsTimer timer = record {
      count = omega (arith, within, short);
      top = omega (arith, short);
      temp = omega arith;
      interrupt_mask = omega arith;
      control_a = omega arith;
      control_b = omega arith;
    } in
    let s = state_of image cert true timer (ram_of (byte_of image cert flash limits entry depth level.0 cell)) in
    let begins : Begins Main cert s p = record {
      rest = rest;
      is_rest = is_rest;
      interrupts = sreg_i cert.entry.flags true;
      timer = record { counting = refl; top = omega (arith, within); enabled = refl; clear = refl; settled = refl };
      place = refl;
      rested = omega arith;
      within = within;
      cells = held image cert flash limits entry depth level.0 cell Handler rest.cells.items (entry.rests rest is_rest)
          (λ a v e. second_of_two (own a) (others a) v (λ u f. apart cert a u v cert.entry.cells.items rest.cells.items entry f e) e);
    } in
    enters_by image cert flash limits entry depth true timer p level.0 cell timed level.1 level.2
    (λ a v e. either_byte (own a) (others a) v (λ u f. found_byte (tracked cert.head Main) cert.entry.cells.items a u entry.cells f)
    (λ u f. found_byte (tracked cert.head Handler) rest.cells.items a u (entry.rests rest is_rest) f) e)
    (λ a v e. first_of_two (own a) (others a) v (subst (λ k. found (tracked cert.head k) cert.entry.cells.items a ≡ Some v) kind e))
    (subst (λ k. Begins k cert s p) (sym kind) begins)

pub some_state : (image : FinMap nat_cmp ℕ) (cert : Cert) → IsFlash image → Limits cert → EntryLimits cert → IsSteady cert.schedule
    → HasRest cert cert.entry.kind → Enters image cert
some_state image cert flash limits entry steady rest = by_kind cert.entry.kind refl rest
  where
    by_kind : (kind : Kind) → cert.entry.kind ≡ kind → HasRest cert kind → Enters image cert
    by_kind Main kind h = main_enters image cert flash limits entry steady kind h.0 h.1 h.2
    by_kind Handler kind h = absurd h
    by_kind Alone kind h = alone_enters image cert flash limits entry steady kind
