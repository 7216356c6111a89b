-- What is known of OCR1A and TEMP after an instruction's loads and stores.
use Rattle.uz_rules.proofs.Common.{◌≡◌, ℕ, ◌+◌, ◌*◌, ◌/◌, ◌%◌, ◌<◌, ◌≤◌, Bool, true, false, if◌then◌else◌, nat_eq, nat_le, [], ◌∷◌, None}
use Rattle.uz_rules.proofs.Common.{refl, sym, ◌∙◌, ap, subst, arith, ◌&&◌, nat_tests, AddressMode, Effect, Load, Store, PopByte, Return}
use Rattle.uz_rules.proofs.Common.{SkipIf, IoBit, Core, register, is_core_address, effective_address, load_addresses, content_after_loads}
use Rattle.uz_rules.proofs.Common.{EffectFits, Timer, timer_after, PadWiring, Space, space_loads, Ends, Head, Instance, is_single, IsWithin}
use Rattle.uz_rules.proofs.Common.{only, span_of, value_at, is_handler, address_range, fail_of, and_parts, not-false}
use Rattle.uz_rules.proofs.Classes.{facts_of, Before, low_room, single_fails, io_fine}
use Rattle.uz_rules.proofs.CoreKeeps.{within_span}
use Rattle.uz_transfer.specs.Timer.{top_after, temp_loaded, temp_after}
use Rattle.uz_rules.proofs.CoreSteps.{address_holds}
use Rattle.uz_rules.proofs.LoadClasses.{ram_not_core}
use Rattle.uz_rules.proofs.StoreClasses.{free_by}
use Rattle.uz_rules.proofs.Timing.{ocr_after, temp_left}

-- Loads

-- what is known of TEMP between the loads and the stores
abbrev pub temp_loads : ℕ → Effect → Instance → Ends
temp_loads sampled (Load d from) inst = temp_loaded sampled (address_range from inst) inst.temp
temp_loads sampled e inst = inst.temp

-- a load that isn't of TCNT1L leaves TEMP
far_load : {P : Type 0} (w : PadWiring P) (late : ℕ) (s : Space P) (at : ℕ) → nat_eq at 0x84 ≡ false
    → (content_after_loads (space_loads w) late s (at ∷ [])).timer.temp ≡ s.timer.temp
far_load {P} w late s at e = by_case (is_core_address at)
  where
    by_case : (t : Bool) → (if t then s else (space_loads w).content_after s at late).timer.temp ≡ s.timer.temp
    by_case true = refl
    by_case false = rw e refl

one_load : {P : Type 0} (w : PadWiring P) (late sampled at : ℕ) (a temp : Ends) (s : Space P) → IsWithin at a → IsWithin s.timer.temp temp
    → s.timer.temp < 256 → (timer_after late s.timer).count ≡ sampled → sampled < 65536
    → IsWithin (content_after_loads (space_loads w) late s (at ∷ [])).timer.temp (temp_loaded sampled a temp)
one_load {P} w late sampled at a temp s within held byte is low = by_case (nat_eq at 0x84) (is_single a) refl refl
  where
    hit : IsWithin (sampled / 256) (temp_loaded sampled a temp) → at ≡ 0x84
        → IsWithin (content_after_loads (space_loads w) late s (at ∷ [])).timer.temp (temp_loaded sampled a temp)
    hit h e = subst (λ n. IsWithin (content_after_loads (space_loads w) late s (n ∷ [])).timer.temp (temp_loaded sampled a temp)) (sym e)
        (subst (λ n. IsWithin (n / 256) (temp_loaded sampled a temp)) (sym is) h)

    by_case : (t u : Bool) → nat_eq at 0x84 ≡ t → is_single a ≡ u
        → IsWithin (content_after_loads (space_loads w) late s (at ∷ [])).timer.temp (temp_loaded sampled a temp)
    by_case true true e one =
        let i : at ≡ 0x84 = grind (arith, nat_tests) in
        let j : a.lo ≡ 0x84 = only a at one within ∙ i in
        let k : nat_eq a.lo 0x84 ≡ true = grind (arith, nat_tests) in
        hit (rw (one, k) (record { above = omega arith; below = omega arith })) i
    by_case true false e many =
        let i : at ≡ 0x84 = grind (arith, nat_tests) in
        let p : nat_le a.lo 0x84 ≡ true = (let q = within.above in grind (arith, nat_tests)) in
        let r : nat_le 0x84 a.hi ≡ true = (let q = within.below in grind (arith, nat_tests)) in
        hit (rw (many, p, r) (record { above = omega arith; below = omega (arith, low) })) i
    by_case false true e one =
        let j = only a at one within in
        let k : nat_eq a.lo 0x84 ≡ false = subst (λ n. nat_eq n 0x84 ≡ false) (sym j) e in
        rw (far_load w late s at e, one, k) held
    by_case false false e many = rw (far_load w late s at e, many) (other (nat_le a.lo 0x84 && nat_le 0x84 a.hi))
      where
        other : (b : Bool) → IsWithin s.timer.temp (if b then record { lo = 0; hi = 255 } else temp)
        other true = record { above = omega arith; below = omega (arith, byte) }
        other false = held

far_loads : {P : Type 0} (w : PadWiring P) (late : ℕ) (s : Space P) (a b : ℕ) → 256 ≤ a → 256 ≤ b
    → (content_after_loads (space_loads w) late s (a ∷ b ∷ [])).timer.temp ≡ s.timer.temp
far_loads w late s a b p q =
    let x : nat_eq a 0x84 ≡ false = grind (arith, nat_tests) in
    let y : nat_eq b 0x84 ≡ false = grind (arith, nat_tests) in
    rw (ram_not_core a p, ram_not_core b q, x, y) (refl {a = s.timer.temp})

-- what an instance's stack leaves of the address space
room_above : {P : Type 0} (head : Head) (inst : Instance) (o core : Core) (d : ℕ) (s : Space P) → Before head inst o d core s
    → (255 ≤ core.sp) × (core.sp ≤ 4351)
room_above head inst o core d s b = (omega (arith, low_room head inst o d core s b, b.fits.low), omega (arith, b.memory.depth, b.fits.high))

pub loads_temp : {P : Type 0} (w : PadWiring P) (e : Effect) (head : Head) (late sampled d : ℕ) (inst : Instance) (o core : Core)
    (s : Space P) → EffectFits e → Before head inst o d core s
    → IsWithin s.timer.temp inst.temp → s.timer.temp < 256 → (timer_after late s.timer).count ≡ sampled → sampled < 65536
    → IsWithin (content_after_loads (space_loads w) late s (load_addresses e core)).timer.temp (temp_loads sampled e inst)
loads_temp w (Load to from) head late sampled d inst o core s fits b held byte is low =
    one_load w late sampled (effective_address from core) (address_range from inst) inst.temp s
    (address_holds from inst o core b.is_core fits.1 b.meets) held byte is low
loads_temp w (PopByte to) head late sampled d inst o core s fits b held byte is low =
    let room = room_above head inst o core d s b in
    let up : 256 ≤ (core.sp + 1) % 65536 = omega (arith, room) in
    rw (far_load w late s ((core.sp + 1) % 65536) (grind (arith, nat_tests))) held
loads_temp w (Return t) head late sampled d inst o core s fits b held byte is low =
    let room = room_above head inst o core d s b in
    rw (far_loads w late s ((core.sp + 1) % 65536) ((core.sp + 2) % 65536) (omega (arith, room)) (omega (arith, room))) held
loads_temp w (SkipIf (IoBit at bit set)) head late sampled d inst o core s fits b held byte is low =
    let port = fits.0.1 in
    rw (far_load w late s at (grind (arith, nat_tests))) held
loads_temp w e head late sampled d inst o core s fits b held byte is low = held

-- Stores

-- a store that isn't refused is to a register below the RAM exactly where its address is known to be that one
low_test : {P : Type 0} (head : Head) (to : AddressMode) (r n d : ℕ) (inst : Instance) (o core : Core) (s : Space P)
    → EffectFits (Store to r) → Before head inst o d core s → fail_of head (Store to r) inst ≡ None → n < 256
    → nat_eq (effective_address to core) n ≡ (is_single (address_range to inst) && nat_eq (address_range to inst).lo n)
low_test head to r n d inst o core s fits b fail low = by_case (is_single (address_range to inst)) refl
  where
    within : IsWithin (effective_address to core) (address_range to inst)
    within = address_holds to inst o core b.is_core fits.0 b.meets

    by_case : (t : Bool) → is_single (address_range to inst) ≡ t
        → nat_eq (effective_address to core) n ≡ (t && nat_eq (address_range to inst).lo n)
    by_case true one = ap (λ a. nat_eq a n) (sym (only (address_range to inst) (effective_address to core) one within))
    by_case false many =
        let may = not-false _ (facts_of head inst to r fail).may in
        let f = free_by head (address_range to inst) (rw many at may) in
        let high : 256 ≤ effective_address to core = omega (arith, f.low, within.above) in
        grind (arith, nat_tests)

-- OCR1A and TEMP are those that are known after a handler's instruction
pub record Known (e : Effect) (inst : Instance) (core : Core) (sampled : ℕ) (t : Timer) : Type 0 where
  pub top : ocr_after e core t ≡ top_after e inst
  pub temp : IsWithin (temp_left e core t) (temp_after sampled e inst)

pub stores_known : {P : Type 0} (e : Effect) (head : Head) (d sampled : ℕ) (inst : Instance) (o core : Core) (s : Space P) (t : Timer)
    → EffectFits e → is_handler inst.kind ≡ true → Before head inst o d core s → fail_of head e inst ≡ None → t.top ≡ inst.top
    → IsWithin t.temp (temp_loads sampled e inst) → Known e inst core sampled t
stores_known (Store to r) head d sampled inst o core s t fits handler b fail top held =
    let low = low_test head to r 0x88 d inst o core s fits b fail (omega arith) in
    let high = low_test head to r 0x89 d inst o core s fits b fail (omega arith) in
    record {
      top = rw (handler, low) (top_by (is_single (address_range to inst) && nat_eq (address_range to inst).lo 0x88) refl);
      temp = rw (handler, high) (temp_by (is_single (address_range to inst) && nat_eq (address_range to inst).lo 0x89));
    }
  where
    value : IsWithin (register core r) (span_of (value_at inst.regs r))
    value = within_span inst o core r b.is_core fits.1 b.meets

    top_by : (stores : Bool) → (is_single (address_range to inst) && nat_eq (address_range to inst).lo 0x88) ≡ stores
        → (if stores then t.temp * 256 + register core r else t.top)
        ≡ (if stores then inst.temp.lo * 256 + (span_of (value_at inst.regs r)).lo else inst.top)
    top_by true e =
        let one = and_parts (is_single (address_range to inst)) _ e in
        let fine = io_fine inst (address_range to inst).lo (value_at inst.regs r)
        (single_fails _ _ (facts_of head inst to r fail).io one.0) in
        let known = and_parts (is_single inst.temp) _ (not-false _ (fine.low one.1).1) in
        let same : inst.temp.lo ≡ t.temp = only inst.temp t.temp known.0 held in
        let also : (span_of (value_at inst.regs r)).lo ≡ register core r = only (span_of (value_at inst.regs r)) (register core r)
        (and_parts (is_single (span_of (value_at inst.regs r))) _ known.1).0 value in
        rw (same, also) refl
    top_by false e = top

    temp_by : (stores : Bool) → IsWithin (if stores then register core r else t.temp)
        (if stores then span_of (value_at inst.regs r) else inst.temp)
    temp_by true = value
    temp_by false = held
stores_known (Load to from) head d sampled inst o core s t fits handler b fail top held = record { top = top; temp = rw handler held }
stores_known e head d sampled inst o core s t fits handler b fail top held = record { top = top; temp = held }

-- outside a handler OCR1A stays
pub top_stays : {P : Type 0} (e : Effect) (head : Head) (d : ℕ) (inst : Instance) (o core : Core) (s : Space P) (t : Timer)
    → EffectFits e → is_handler inst.kind ≡ false → Before head inst o d core s → fail_of head e inst ≡ None → ocr_after e core t ≡ t.top
top_stays (Store to r) head d inst o core s t fits out b fail =
    rw (low_test head to r 0x88 d inst o core s fits b fail (omega arith))
    (by_case (is_single (address_range to inst) && nat_eq (address_range to inst).lo 0x88) refl)
  where
    by_case : (stores : Bool) → (is_single (address_range to inst) && nat_eq (address_range to inst).lo 0x88) ≡ stores
        → (if stores then t.temp * 256 + register core r else t.top) ≡ t.top
    by_case true e =
        let one = and_parts (is_single (address_range to inst)) _ e in
        let fine = io_fine inst (address_range to inst).lo (value_at inst.regs r)
        (single_fails _ _ (facts_of head inst to r fail).io one.0) in
        let handler : is_handler inst.kind ≡ true = (fine.low one.1).0 in
        absurd cc
    by_case false e = refl
top_stays e head d inst o core s t fits out b fail = refl
