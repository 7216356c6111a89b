-- How the timer goes on with an instance's clock and pending match, and what loads and stores leave of it.
use Rattle.uz_rules.proofs.Common.{or_parts, push_room, call_room, ◌≡◌, ◌⊎◌, inl, inr, ℕ, suc, ◌+◌, ◌-◌, ◌*◌, ◌/◌, ◌%◌, ◌^◌, ◌<◌, ◌≤◌, Bool}
use Rattle.uz_rules.proofs.Common.{true, false, not, if◌then◌else◌, nat_eq, nat_lt, nat_le, Some, None, List, [], ◌∷◌, filter, refl, sym}
use Rattle.uz_rules.proofs.Common.{◌∙◌, ap, subst, arith, ◌&&◌, ◌||◌, eqb_tells, nat_tests, bit_at, Effect, Store, PushByte, WriteIoBit}
use Rattle.uz_rules.proofs.Common.{Jump, Byte, BitCall, bit_is_set, with_bit, Core, register, is_core_address, effective_address}
use Rattle.uz_rules.proofs.Common.{following_pc, content_after_loads, stores_of, leaves_core, EffectFits, Timer, is_counting, count_after}
use Rattle.uz_rules.proofs.Common.{matches_within, timer_after, is_timer_address, PadWiring, Space, is_pin, byte_at, after_byte}
use Rattle.uz_rules.proofs.Common.{after_store, takes_one_bit, space_loads, after_stores, Ends, Kind, Bit, Zero, One, Val, Range, Head}
use Rattle.uz_rules.proofs.Common.{Instance, is_single, is_known, IsWithin, Admits, bst_answer, only, bst_covers, value_at, ValueHolds}
use Rattle.uz_rules.proofs.Common.{is_main, is_handler, address_range, is_setup_register, stored_bit, flag_is, flag_fails, may_store}
use Rattle.uz_rules.proofs.Common.{fail_of, clears_flag, not-false, bit_at-pow_other}
use Rattle.uz_rules.proofs.Classes.{room_for, facts_of, Before, unless_none, single_fails, io_fine}
use Rattle.std.proofs.Math.Nat.{mod-eq_of_lt, mod-eq-sub-mod, mod-lt}
use Rattle.uz_rules.proofs.SpaceStores.{choose_if}
use Rattle.uz_rules.proofs.StoreClasses.{SetsNothingElse, free_by}
use Rattle.uz_rules.proofs.CoreSteps.{address_holds}
use Rattle.uz_rules.proofs.LoadClasses.{ram_not_core}

-- What is left of a timer: OCF1A where it isn't cleared, and all else but OCR1A and TEMP, which have these values
pub record Beside (clears : Bool) (ocr high : ℕ) (t u : Timer) : Type 0 where
  pub count : u.count ≡ t.count
  pub top : u.top ≡ ocr
  pub temp : u.temp ≡ high
  pub matched : u.matched ≡ (not clears && t.matched)
  pub mask : u.interrupt_mask ≡ t.interrupt_mask
  pub control_a : u.control_a ≡ t.control_a
  pub control_b : u.control_b ≡ t.control_b

pub beside_itself : (t : Timer) → Beside false t.top t.temp t t
beside_itself t = record { count = refl; top = refl; temp = refl; matched = refl; mask = refl; control_a = refl; control_b = refl }

beside_same : (t u : Timer) → u ≡ t → Beside false t.top t.temp t u
beside_same t u e = subst (λ x. Beside false t.top t.temp t x) (sym e) (beside_itself t)

-- Loads

-- they leave all but TEMP
pub loads_beside : {P : Type 0} (w : PadWiring P) (late : ℕ) (c : Space P) (ats : List ℕ) → Beside false c.timer.top
    (content_after_loads (space_loads w) late c ats).timer.temp c.timer (content_after_loads (space_loads w) late c ats).timer
loads_beside w late c [] = beside_itself c.timer
loads_beside {P} w late c (at ∷ ats) =
    choose_if (λ (t : Space P). Beside false c.timer.top t.timer.temp c.timer t.timer) (is_core_address at) _ _ (λ e. loads_beside w late c ats)
    (λ e. through (nat_eq at 0x84) (loads_beside w late ((space_loads w).content_after c at late) ats))
  where
    through : (t : Bool) {u : Timer} → Beside false (if t then record c.timer { temp = (timer_after late c.timer).count / 256 } else
        c.timer).top u.temp (if t then record c.timer { temp = (timer_after late c.timer).count / 256 } else c.timer) u
        → Beside false c.timer.top u.temp c.timer u
    through true h = record {
      count = h.count;
      top = h.top;
      temp = refl;
      matched = h.matched;
      mask = h.mask;
      control_a = h.control_a;
      control_b = h.control_b;
    }
    through false h = h

-- Stores

timer_kept : {P : Type 0} (w : PadWiring P) (s : Space P) (at v : ℕ) → is_timer_address at ≡ false → (after_byte w at v s).timer ≡ s.timer
timer_kept {P} w s at v h =
    let Same : Space P → Type 0 = λ t. t.timer ≡ s.timer in
    choose_if Same (nat_eq at 0x20) _ _ (λ t. refl)
    (λ t. choose_if Same (nat_eq at 0x22) _ _ (λ t. refl)
    (λ t. choose_if Same (is_pin at) _ _ (λ t. refl)
    (λ t. choose_if Same (is_timer_address at) _ _ (λ t. absurd cc)
    (λ t. choose_if Same (nat_lt 0x10FF at) _ _ (λ t. refl) (λ t. refl)))))

timer_high : (at : ℕ) → 256 ≤ at → is_timer_address at ≡ false
timer_high at h = grind (arith, nat_tests)

timer_other : (at : ℕ) → is_setup_register at ≡ false → nat_eq at 0x36 ≡ false → nat_eq at 0x88 ≡ false → nat_eq at 0x89 ≡ false
    → is_timer_address at ≡ false
timer_other at io f low high =
    let ports = or_parts (nat_eq at 0x2A) _ (or_parts (nat_eq at 0x27) _ (or_parts (nat_eq at 0x24) _
    (or_parts (nat_eq at 0x21) _ io).1).1).1 in
    let a = or_parts (nat_eq at 0x6F) _ (or_parts (nat_eq at 0x5E) _ (or_parts (nat_eq at 0x5D) _ ports.1).1).1 in
    let b = or_parts (nat_eq at 0x80) _ a.1 in
    let c = or_parts (nat_eq at 0x81) _ b.1 in
    let d = or_parts (nat_eq at 0x84) _ c.1 in
    let e = or_parts (nat_eq at 0x85) _ d.1 in
    rw (f, a.0, b.0, c.0, d.0, e.0, low, high) refl

-- TIFR1
flag_written : {P : Type 0} (w : PadWiring P) (s : Space P) (v : ℕ) (clears : Bool) → bit_is_set v 1 ≡ clears
    → Beside clears s.timer.top s.timer.temp s.timer (after_byte w 0x36 v s).timer
flag_written w s v true e =
    rw e (record { count = refl; top = refl; temp = refl; matched = refl; mask = refl; control_a = refl; control_b = refl })
flag_written w s v false e = rw e (beside_itself s.timer)

known_bit : (b : Bit) (t : Bool) → Admits b (Some t) → is_known b ≡ true → t ≡ flag_is b true
known_bit Zero t a k = cc
known_bit One t a k = cc
known_bit b t a k = absurd cc

written_bit : (v : Val) (o : Core) (x : ℕ) → ValueHolds v o x → is_known (stored_bit v 1) ≡ true → bit_is_set x 1 ≡ flag_is (stored_bit v 1)
    true
written_bit (Range e) o x h k = known_bit (bst_answer e 1) (bit_is_set x 1) (bst_covers e 1 x h) k
written_bit v o x h k = absurd cc

-- one byte that is held, at an address that isn't the timer's
held_byte : {P : Type 0} (w : PadWiring P) (s : Space P) (at v : ℕ) → is_timer_address at ≡ false
    → Beside false s.timer.top s.timer.temp s.timer (after_stores w (filter leaves_core (Byte at v ∷ [])) s).timer
held_byte {P} w s at v other = by_case (is_core_address at)
  where
    by_case : (t : Bool) → Beside false s.timer.top s.timer.temp s.timer (after_stores w (if not t then Byte at v ∷ [] else []) s).timer
    by_case true = beside_itself s.timer
    by_case false = beside_same s.timer (after_byte w at v s).timer (timer_kept w s at v other)

-- ST, STD, STS, OUT

known_by : (m h k : Bool) → (m || h) ≡ true → (m || (h && not k)) ≡ false → k ≡ true
known_by false true true e f = refl
known_by m h k e f = absurd cc

-- OCR1A and TEMP after a byte is stored
abbrev ocr_stored : ℕ → ℕ → Timer → ℕ
ocr_stored at v t = if nat_eq at 0x88 then t.temp * 256 + v else t.top

abbrev temp_stored : ℕ → ℕ → Timer → ℕ
temp_stored at v t = if nat_eq at 0x89 then v else t.temp

store_at : {P : Type 0} (w : PadWiring P) (head : Head) (kind : Kind) (at v : ℕ) (a : Ends) (val : Val) (o : Core) (s : Space P)
    → (is_main kind || is_handler kind) ≡ true → ValueHolds val o v → IsWithin at a → (is_single a && flag_fails kind a.lo val) ≡ false
    → may_store head kind a val ≡ true → (is_single a ≡ true → SetsNothingElse a.lo)
    → Beside (is_single a && (nat_eq a.lo 0x36 && flag_is (stored_bit val 1) true)) (ocr_stored at v s.timer) (temp_stored at v s.timer)
    s.timer (after_stores w (filter leaves_core (Byte at v ∷ [])) s).timer
store_at {P} w head kind at v a val o s beside hv within flag may io = by_single (is_single a) refl flag may io
  where
    Stores : Bool → ℕ → Type 0
    Stores clears n = Beside clears (ocr_stored n v s.timer) (temp_stored n v s.timer) s.timer
        (after_stores w (filter leaves_core (Byte n v ∷ [])) s).timer

    to_high : (t : Bool) → nat_eq at 0x89 ≡ t → nat_eq at 0x88 ≡ false → (t ≡ false → is_timer_address at ≡ false) → Stores false at
    to_high true e low other =
        let i : at ≡ 0x89 = grind (arith, nat_tests) in
        subst (Stores false) (sym i)
        (record { count = refl; top = refl; temp = refl; matched = refl; mask = refl; control_a = refl; control_b = refl })
    to_high false e low other = rw (low, e) (held_byte w s at v (other refl))

    to_low : (t : Bool) → nat_eq at 0x88 ≡ t → (t ≡ false → nat_eq at 0x89 ≡ false → is_timer_address at ≡ false) → Stores false at
    to_low true e other =
        let i : at ≡ 0x88 = grind (arith, nat_tests) in
        subst (Stores false) (sym i)
        (record { count = refl; top = refl; temp = refl; matched = refl; mask = refl; control_a = refl; control_b = refl })
    to_low false e other = to_high (nat_eq at 0x89) refl e (other refl)

    by_flag : (t : Bool) → nat_eq at 0x36 ≡ t → flag_fails kind at val ≡ false → SetsNothingElse at
        → Stores (t && flag_is (stored_bit val 1) true) at
    by_flag true e flag io =
        let i : at ≡ 0x36 = grind (arith, nat_tests) in
        let f : flag_fails kind 0x36 val ≡ false = subst (λ n. flag_fails kind n val ≡ false) i flag in
        let known : is_known (stored_bit val 1) ≡ true = known_by (is_main kind) (is_handler kind) (is_known (stored_bit val 1)) beside f in
        subst (Stores (flag_is (stored_bit val 1) true)) (sym i)
        (flag_written w s v (flag_is (stored_bit val 1) true) (written_bit val o v hv known))
    by_flag false e flag io = to_low (nat_eq at 0x88) refl (λ low high. timer_other at (io low high) e low high)

    by_single : (t : Bool) → is_single a ≡ t → (t && flag_fails kind a.lo val) ≡ false → may_store head kind a val ≡ true
        → (t ≡ true → SetsNothingElse a.lo) → Stores (t && (nat_eq a.lo 0x36 && flag_is (stored_bit val 1) true)) at
    by_single true one flag may io =
        let i = only a at one within in
        subst (λ n. Stores (nat_eq n 0x36 && flag_is (stored_bit val 1) true) at) (sym i)
        (by_flag (nat_eq at 0x36) refl (subst (λ n. flag_fails kind n val ≡ false) i flag)
        (subst SetsNothingElse i (io refl)))
    by_single false many flag may io =
        let f = free_by head a (rw many at may) in
        to_low (nat_eq at 0x88) refl (λ low high. timer_high at (omega (arith, f.low, within.above)))

-- SBI, CBI

bit_one : (b : ℕ) → bit_is_set (2 ^ b) 1 ≡ nat_eq b 1
bit_one b =
    elim (eqb_tells b 1) [
      | inl t ↦ rw t.0 (subst (λ n. bit_is_set (2 ^ n) 1 ≡ true) (sym t.1) refl)
      | inr t ↦ let z : bit_at (2 ^ b) 1 ≡ 0 = bit_at-pow_other b 1 (λ q. t.1 (sym q)) in rw (t.0, z) refl
    ]

bit_at_port : {P : Type 0} (w : PadWiring P) (s : Space P) (at b : ℕ) (set : Bool) → at < 64 → is_setup_register at ≡ false
    → Beside (nat_eq at 0x36 && (nat_eq b 1 && set)) s.timer.top s.timer.temp s.timer (after_store w (BitCall at b set) s).timer
bit_at_port {P} w s at b set low io = by_case (nat_eq at 0x36) set refl
  where
    by_takes : (t u : Bool) → is_timer_address at ≡ false → (if t then (if u then after_byte w at (2 ^ b) s else s) else after_byte w at
        (with_bit b u (byte_at w s at)) s).timer ≡ s.timer
    by_takes true true h = timer_kept w s at (2 ^ b) h
    by_takes true false h = refl
    by_takes false u h = timer_kept w s at (with_bit b u (byte_at w s at)) h

    clear_false : (t : Bool) → (t && false) ≡ false
    clear_false true = refl
    clear_false false = refl

    keep_true : (t : Bool) → (t && true) ≡ t
    keep_true true = refl
    keep_true false = refl

    by_case : (t u : Bool) → nat_eq at 0x36 ≡ t
        → Beside (t && (nat_eq b 1 && u)) s.timer.top s.timer.temp s.timer (after_store w (BitCall at b u) s).timer
    by_case true true e =
        let i : at ≡ 0x36 = grind (arith, nat_tests) in
        subst (λ n. Beside (nat_eq b 1 && true) s.timer.top s.timer.temp s.timer (after_store w (BitCall n b true) s).timer) (sym i)
        (rw (keep_true (nat_eq b 1)) (flag_written w s (2 ^ b) (nat_eq b 1) (bit_one b)))
    by_case true false e =
        let i : at ≡ 0x36 = grind (arith, nat_tests) in
        subst (λ n. Beside (nat_eq b 1 && false) s.timer.top s.timer.temp s.timer (after_store w (BitCall n b false) s).timer) (sym i)
        (rw (clear_false (nat_eq b 1)) (beside_itself s.timer))
    by_case false u e =
        let below : nat_eq at 0x88 ≡ false = grind (arith, nat_tests) in
        let above : nat_eq at 0x89 ≡ false = grind (arith, nat_tests) in
        beside_same s.timer (after_store w (BitCall at b u) s).timer (by_takes (takes_one_bit at) u (timer_other at io e below above))

-- The stores of each class

two_high : {P : Type 0} (w : PadWiring P) (s : Space P) (a b x y : ℕ) → 256 ≤ a → 256 ≤ b → Beside false s.timer.top s.timer.temp s.timer
    (after_stores w (filter leaves_core (Byte a x ∷ Byte b y ∷ [])) s).timer
two_high w s a b x y p q =
    rw (ram_not_core a p, ram_not_core b q)
    (beside_same s.timer _ (timer_kept w (after_byte w a x s) b y (timer_high b q) ∙ timer_kept w s a x (timer_high a p)))

-- OCR1A after an effect's stores
abbrev pub ocr_after : Effect → Core → Timer → ℕ
ocr_after (Store to r) core t = ocr_stored (effective_address to core) (register core r) t
ocr_after e core t = t.top

-- and TEMP
abbrev pub temp_left : Effect → Core → Timer → ℕ
temp_left (Store to r) core t = temp_stored (effective_address to core) (register core r) t
temp_left e core t = t.temp

pub stores_beside : {P : Type 0} (w : PadWiring P) (e : Effect) (head : Head) (words d : ℕ) (inst : Instance) (o core : Core)
    (before s : Space P) → EffectFits e → (is_main inst.kind || is_handler inst.kind) ≡ true → Before head inst o d core before
    → fail_of head e inst ≡ None
    → Beside (clears_flag e inst) (ocr_after e core s.timer) (temp_left e core s.timer) s.timer
    (after_stores w (filter leaves_core (stores_of e words core)) s).timer
stores_beside w (Store to r) head words d inst o core before s fits beside b fail =
    let facts = facts_of head inst to r fail in
    store_at w head inst.kind (effective_address to core) (register core r) (address_range to inst) (value_at inst.regs r) o s beside
    (b.meets.regs r fits.1) (address_holds to inst o core b.is_core fits.0 b.meets) facts.flag (not-false _ facts.may)
    (λ one. (io_fine inst (address_range to inst).lo (value_at inst.regs r) (single_fails _ _ facts.io one)).setup)
stores_beside w (PushByte r) head words d inst o core before s fits beside b fail =
    let room = room_for head inst o d core before b 1 (omega (arith, push_room head inst r fail)) in
    let ram : 256 ≤ core.sp = omega (arith, b.fits.low, room) in
    held_byte w s core.sp (register core r) (timer_high core.sp ram)
stores_beside w (WriteIoBit at bit set) head words d inst o core before s fits beside b fail =
    let io = (unless_none _ _ _ (unless_none _ _ _ fail).1).0 in
    bit_at_port w s at bit set fits.0.1 io
stores_beside w (Jump target true) head words d inst o core before s fits beside b fail =
    let room = room_for head inst o d core before b 2 (call_room head inst target fail) in
    let high : 256 ≤ (core.sp + 65535) % 65536 = omega (arith, b.fits.low, room, b.is_core.sp) in
    two_high w s core.sp ((core.sp + 65535) % 65536) (following_pc words core % 256) (following_pc words core / 256)
    (omega (arith, b.fits.low, room)) high
stores_beside w e head words d inst o core before s fits beside b fail = beside_itself s.timer

-- So many clocks

pub record Later (c : ℕ) (t u : Timer) : Type 0 where
  pub count : u.count ≡ count_after t.count t.top c
  pub matched : u.matched ≡ (t.matched || matches_within t.count t.top c)
  pub top : u.top ≡ t.top
  pub temp : u.temp ≡ t.temp
  pub mask : u.interrupt_mask ≡ t.interrupt_mask
  pub control_a : u.control_a ≡ t.control_a
  pub control_b : u.control_b ≡ t.control_b

pub later : (c : ℕ) (t : Timer) → is_counting t ≡ true → Later c t (timer_after c t)
later c t e = rw e (record { count = refl; matched = refl; top = refl; temp = refl; mask = refl; control_a = refl; control_b = refl })

-- OCR1A is the line's last clock, or neither ends within so many clocks
abbrev pub OnTime : ℕ → ℕ → ℕ → ℕ → Type 0
OnTime clock length top c = (suc top ≡ length) ⊎ ((clock + c ≤ top) × (clock + c < length))

-- then the count is the clock, and the flag the pending match
pub record Timed (clock length c : ℕ) (t : Timer) : Type 0 where
  pub count : count_after t.count t.top c ≡ (if nat_lt (clock + c) length then clock + c else clock + c - length)
  pub ends : matches_within t.count t.top c ≡ nat_le length (clock + c)

pub timed : (clock length c : ℕ) (t : Timer) → t.count ≡ clock → clock < length → c ≤ length → OnTime clock length t.top c
    → Timed clock length c t
timed clock length c t count low few (inl top) =
    let here : nat_le t.count t.top ≡ true = grind (arith, nat_tests) in
    record {
      count = rw here (by_case (nat_lt (clock + c) length) refl);
      ends = rw here (let e : t.top + 1 ≡ length = omega arith in rw (e, count) refl);
    }
  where
    by_case : (b : Bool) → nat_lt (clock + c) length ≡ b → (t.count + c) % (t.top + 1) ≡ (if b then clock + c else clock + c - length)
    by_case true e = let u : clock + c < length = grind (arith, nat_tests) in let k : t.top + 1 ≡ length = omega arith in
        rw (k, count) (mod-eq_of_lt u)
    by_case false e = let u : length ≤ clock + c = grind (arith, nat_tests) in let k : t.top + 1 ≡ length = omega arith in
        rw (k, count) (let r : clock + c - length < length = omega arith in mod-eq-sub-mod u ∙ mod-eq_of_lt r)
timed clock length c t count low few (inr both) =
    let here : nat_le t.count t.top ≡ true = (let a = both.0 in grind (arith, nat_tests)) in
    let inside : nat_lt (clock + c) length ≡ true = (let b = both.1 in grind (arith, nat_tests)) in
    let not_over : nat_le length (clock + c) ≡ false = (let b = both.1 in grind (arith, nat_tests)) in
    let not_matched : nat_le (t.top + 1) (t.count + c) ≡ false = (let a = both.0 in grind (arith, nat_tests)) in
    let small : t.count + c < t.top + 1 = omega (arith, both.0, count) in
    record {
      count = rw (here, inside) (mod-eq_of_lt small ∙ ap (λ n. n + c) count);
      ends = rw (here, not_over, not_matched) refl;
    }

-- the count at a clock within the instruction, as the line's clock
pub sampled_count : (count top clock length late c : ℕ) → count ≡ clock → clock < length → late ≤ c → OnTime clock length top c
    → count_after count top late ≡ (clock + late) % length
sampled_count count top clock length late c e low within (inl full) =
    let here : nat_le count top ≡ true = grind (arith, nat_tests) in
    let k : top + 1 ≡ length = omega arith in
    rw here (rw (k, e) refl)
sampled_count count top clock length late c e low within (inr both) =
    let here : nat_le count top ≡ true = (let a = both.0 in grind (arith, nat_tests)) in
    let small : count + late < top + 1 = omega (arith, both.0, e, within) in
    let short : clock + late < length = omega (arith, both.1, within) in
    rw here (mod-eq_of_lt small ∙ (ap (λ n. n + late) e ∙ sym (mod-eq_of_lt short)))

-- it isn't above OCR1A
pub sampled_low : (top clock length late c : ℕ) → clock < length → late ≤ c → OnTime clock length top c → (clock + late) % length ≤ top
sampled_low top clock length late c low within (inl full) =
    let some : 0 < length = omega arith in
    let m : (clock + late) % length < length = mod-lt (clock + late) some in omega (arith, m, full)
sampled_low top clock length late c low within (inr both) =
    let short : clock + late < length = omega (arith, both.1, within) in
    rw (mod-eq_of_lt short) (omega (arith, both.0, within))

-- nor is TCNT1 at the end
pub stays_below : (clock length top c : ℕ) → clock < length → c ≤ 4 → 4 ≤ length → OnTime clock length top c
    → (if nat_lt (clock + c) length then clock + c else clock + c - length) ≤ top
stays_below clock length top c low few long (inl full) = by_case (nat_lt (clock + c) length) refl
  where
    by_case : (b : Bool) → nat_lt (clock + c) length ≡ b → (if b then clock + c else clock + c - length) ≤ top
    by_case true e = let u : clock + c < length = grind (arith, nat_tests) in omega (arith, u, full)
    by_case false e = omega (arith, full, low, few, long)
stays_below clock length top c low few long (inr both) =
    let inside : nat_lt (clock + c) length ≡ true = (let b = both.1 in grind (arith, nat_tests)) in rw inside both.0
