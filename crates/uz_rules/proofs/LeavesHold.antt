-- An instruction leaves the stack above its own slots, and the cells that its kind doesn't track.
use Rattle.uz_rules.proofs.Common.{push_room, call_room, ◌≡◌, ◌≢◌, inl, inr, ℕ, suc, ◌+◌, ◌-◌, ◌/◌, ◌%◌, ◌<◌, ◌≤◌, Bool, true, false, not}
use Rattle.uz_rules.proofs.Common.{if◌then◌else◌, nat_le, Some, None, List, [], ◌∷◌, filter, length, refl, ◌∙◌, ap, subst, arith, ◌&&◌}
use Rattle.uz_rules.proofs.Common.{nat_tests, Effect, Store, PushByte, WriteIoBit, Jump, Byte, Core, register, is_core_address}
use Rattle.uz_rules.proofs.Common.{effective_address, following_pc, stores_of, leaves_core, EffectFits, PadWiring, Space, after_byte}
use Rattle.uz_rules.proofs.Common.{after_stores, Ends, Kind, Val, Head, Instance, is_single, IsWithin, only, span_of, value_at, cell_place}
use Rattle.uz_rules.proofs.Common.{cell_range, HeadFits, Untouched, address_range, depth_of, cell_admits, may_store, fail_of, and_parts}
use Rattle.uz_rules.proofs.Common.{or_cases, not-false}
use Rattle.uz_rules.proofs.Classes.{room_for, facts_of, Before, low_room, size_stored}
use Rattle.uz_rules.proofs.MemoryKeeps.{Wrote, missed}
use Rattle.uz_rules.proofs.SpaceStores.{byte_wrote, bit_kept}
use Rattle.uz_rules.proofs.StoreClasses.{cell_taken, free_by}
use Rattle.uz_rules.proofs.CoreSteps.{address_holds}

leaves_itself : (head : Head) (kind : Kind) (base : ℕ) (bytes : List ℕ) → Untouched head kind base bytes bytes
leaves_itself head kind base bytes = record { above = λ a h k. refl; cells = λ a r h k. refl }

pub then_leaves : (head : Head) (kind : Kind) (base : ℕ) (a b c : List ℕ) → Untouched head kind base a b → Untouched head kind base b c
    → Untouched head kind base a c
then_leaves head kind base a b c p q = record {
  above = λ n h k. q.above n h k ∙ p.above n h k;
  cells = λ n r h k. q.cells n r h k
      ∙ p.cells n r h k;
}

-- one address that is none of these
one_leaves : (head : Head) (kind : Kind) (base at v : ℕ) (old new : List ℕ) → HeadFits head → 256 ≤ suc base → Wrote at v old new
    → ((a : ℕ) → base < a → a ≤ head.hi → a ≢ at) → ((a : ℕ) (r : Ends) → cell_range head a ≡ Some r → cell_place head kind a ≡ None
    → a ≢ at) → Untouched head kind base old new
one_leaves head kind base at v old new fits ram wrote above cells = record {
  above = λ a h k. wrote.other a (omega arith) (above a h k);
  cells = λ a r h k. wrote.other a (fits.cells_ram a r h).0 (cells a r h k);
}

-- a push: at an address of the stack, not above the base
push_leaves : {P : Type 0} (w : PadWiring P) (head : Head) (kind : Kind) (base at v : ℕ) (s : Space P) → HeadFits head
    → length s.bytes ≡ 4352 → head.lo ≤ suc base → head.lo ≤ at → at ≤ base → at ≤ head.hi → Untouched head kind base s.bytes
    (after_byte w at v s).bytes
push_leaves w head kind base at v s fits size low first last high =
    one_leaves head kind base at v s.bytes (after_byte w at v s).bytes fits (omega (arith, fits.low)) (byte_wrote w s at v size)
    (λ a h k q. omega (arith, h, q, last))
    (λ a r h k q. elim (fits.cells_off a r h) [ inl l ↦ omega (arith, l, q, first) | inr g ↦ omega (arith, g, q, high) ])

-- a store off the stack
store_leaves : {P : Type 0} (w : PadWiring P) (head : Head) (kind : Kind) (base at v : ℕ) (a : Ends) (val : Val) (s : Space P)
    → HeadFits head → length s.bytes ≡ 4352 → head.lo ≤ suc base → IsWithin at a → may_store head kind a val ≡ true
    → Untouched head kind base s.bytes (after_byte w at v s).bytes
store_leaves {P} w head kind base at v a val s fits size low within may =
    elim (or_cases (is_single a && (nat_le 0x20 a.lo && nat_le a.lo 0xFF)) _ may) [
      | inl t ↦
          let both = and_parts (nat_le 0x20 a.lo) (nat_le a.lo 0xFF) (and_parts (is_single a) _ t).1 in
          let i = only a at (and_parts (is_single a) _ t).0 within in
          let second = both.1 in
          let below : at ≤ 0xFF = grind (arith, nat_tests) in
          away (λ n h q. omega (arith, below, h, q))
      | inr t ↦
          elim (or_cases (is_single a && cell_admits (cell_place head kind a.lo) (cell_range head a.lo) (span_of val)) _ t) [
            | inl u ↦
                let one = and_parts (is_single a) _ u in
                let i = only a at one.0 within in
                let k = subst (λ n. cell_admits (cell_place head kind n) (cell_range head n) (span_of val) ≡ true) i one.1 in
                let taken = cell_taken head kind at (span_of val) k in
                one_leaves head kind base at v s.bytes (after_byte w at v s).bytes fits (omega (arith, fits.low)) (byte_wrote w s at v size)
                (λ n h j q. elim (fits.cells_off at taken.range taken.is) [
                  | inl l ↦ omega (arith, l, q, h, low)
                  | inr g ↦ omega
                      (arith, g, q, j)
                ])
                (λ n r h j q. let z : cell_place head kind at ≡ None = subst (λ m. cell_place head kind m ≡ None) q j in
                let y = taken.placed in cc)
            | inr u ↦
                let f = free_by head a u in
                one_leaves head kind base at v s.bytes (after_byte w at v s).bytes fits (omega (arith, fits.low)) (byte_wrote w s at v size)
                (λ n h j q. elim f.off [ inl l ↦ omega (arith, l, within.below, q, h, low) | inr g ↦ omega (arith, g, within.above, q, j) ])
                (λ n r h j q. elim (missed head.cells.items a r n f.none h) [
                  | inl l ↦ omega (arith, l, within.above, q)
                  | inr g ↦ omega
                      (arith, g, within.below, q)
                ])
          ]
    ]
  where
    away : ((n : ℕ) → 256 ≤ n → n ≢ at) → Untouched head kind base s.bytes (after_byte w at v s).bytes
    away far = one_leaves head kind base at v s.bytes (after_byte w at v s).bytes fits (omega (arith, fits.low)) (byte_wrote w s at v size)
        (λ n h j. far n (omega (arith, h, low, fits.low))) (λ n r h j. far n (fits.cells_ram n r h).0)

held_leaves : {P : Type 0} (w : PadWiring P) (head : Head) (kind : Kind) (base at v : ℕ) (s : Space P) → Untouched head kind base s.bytes
    (after_byte w at v s).bytes → Untouched head kind base s.bytes (after_stores w (filter leaves_core (Byte at v ∷ [])) s).bytes
held_leaves {P} w head kind base at v s h = by_case (is_core_address at)
  where
    by_case : (t : Bool) → Untouched head kind base s.bytes (after_stores w (if not t then Byte at v ∷ [] else []) s).bytes
    by_case true = leaves_itself head kind base s.bytes
    by_case false = h

two_leaves : {P : Type 0} (w : PadWiring P) (head : Head) (kind : Kind) (base a x b y : ℕ) (s : Space P) → Untouched head kind base s.bytes
    (after_byte w a x s).bytes → ((t : Space P) → t.bytes ≡ (after_byte w a x s).bytes → Untouched head kind base t.bytes
    (after_byte w b y t).bytes)
    → Untouched head kind base s.bytes (after_byte w b y s).bytes → Untouched head kind base s.bytes
    (after_stores w (filter leaves_core (Byte a x ∷ Byte b y ∷ [])) s).bytes
two_leaves {P} w head kind base a x b y s first second alone = by_case (is_core_address a) (is_core_address b)
  where
    by_case : (t u : Bool) → Untouched head kind base s.bytes
        (after_stores w (if not t then Byte a x ∷ (if not u then Byte b y ∷ [] else []) else (if not u then Byte b y ∷ [] else [])) s).bytes
    by_case true true = leaves_itself head kind base s.bytes
    by_case true false = alone
    by_case false true = first
    by_case false false = then_leaves head kind base s.bytes (after_byte w a x s).bytes (after_byte w b y (after_byte w a x s)).bytes first
        (second (after_byte w a x s) refl)

pub stores_leave : {P : Type 0} (w : PadWiring P) (e : Effect) (head : Head) (words d : ℕ) (inst : Instance) (o core : Core)
    (before s : Space P) → length s.bytes ≡ 4352 → EffectFits e → Before head inst o d core before → fail_of head e inst ≡ None
    → Untouched head inst.kind (core.sp + depth_of inst) s.bytes (after_stores w (filter leaves_core (stores_of e words core)) s).bytes
stores_leave w (Store to r) head words d inst o core before s size fits b fail =
    held_leaves w head inst.kind (core.sp + depth_of inst) (effective_address to core) (register core r) s
    (store_leaves w head inst.kind (core.sp + depth_of inst) (effective_address to core) (register core r) (address_range to inst)
    (value_at inst.regs r) s b.fits size (omega (arith, low_room head inst o d core before b))
    (address_holds to inst o core b.is_core fits.0 b.meets) (not-false _ (facts_of head inst to r fail).may))
stores_leave w (PushByte r) head words d inst o core before s size fits b fail =
    let room = room_for head inst o d core before b 1 (omega (arith, push_room head inst r fail)) in
    held_leaves w head inst.kind (core.sp + depth_of inst) core.sp (register core r) s
    (push_leaves w head inst.kind (core.sp + depth_of inst) core.sp (register core r) s b.fits size (omega (arith, room))
    (omega (arith, room)) (omega arith) (omega (arith, b.memory.depth)))
stores_leave w (WriteIoBit at bit set) head words d inst o core before s size fits b fail = record {
  above = λ a h k. bit_kept w s at bit a set fits.0.1 (omega (arith, h, low_room head inst o d core before b, b.fits.low));
  cells = λ a r h k. bit_kept w s at bit a set fits.0.1 (b.fits.cells_ram a r h).0;
}
stores_leave w (Jump target true) head words d inst o core before s size fits b fail =
    let room = room_for head inst o d core before b 2 (call_room head inst target fail) in
    let next : (core.sp + 65535) % 65536 ≡ core.sp - 1 = omega (arith, b.fits.low, room, b.is_core.sp) in
    let first = push_leaves w head inst.kind (core.sp + depth_of inst) core.sp (following_pc words core % 256) s b.fits size
    (omega (arith, room)) (omega (arith, room)) (omega arith) (omega (arith, b.memory.depth)) in
    two_leaves w head inst.kind (core.sp + depth_of inst) core.sp (following_pc words core % 256) ((core.sp + 65535) % 65536)
    (following_pc words core / 256) s first
    (λ t q. push_leaves w head inst.kind (core.sp + depth_of inst) ((core.sp + 65535) % 65536) (following_pc words core / 256) t b.fits
    (ap length q ∙ (size_stored w s core.sp (following_pc words core % 256) ∙ size)) (omega (arith, room)) (omega (arith, next, room))
    (omega (arith, next)) (omega (arith, next, b.memory.depth)))
    (push_leaves w head inst.kind (core.sp + depth_of inst) ((core.sp + 65535) % 65536) (following_pc words core / 256) s b.fits size
    (omega (arith, room)) (omega (arith, next, room)) (omega (arith, next)) (omega (arith, next, b.memory.depth)))
stores_leave w e head words d inst o core before s size fits b fail = leaves_itself head inst.kind (core.sp + depth_of inst) s.bytes
