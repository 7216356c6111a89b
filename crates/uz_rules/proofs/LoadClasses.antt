-- The classes of effect that load: LD and IN, LPM, POP, and the two slots of a return.
use Rattle.uz_rules.proofs.Common.{◌≡◌, ℕ, suc, ◌+◌, ◌-◌, ◌%◌, ◌<◌, ◌≤◌, Bool, true, false, if◌then◌else◌, nat_eq, nat_lt, Option, Some}
use Rattle.uz_rules.proofs.Common.{None, List, [], ◌∷◌, length, refl, sym, ap, subst, arith, slice_index, ◌&&◌, nat_cmp, FinMap}
use Rattle.uz_rules.proofs.Common.{AllByRecursion, nat_tests, byte_or_255, AddressMode, Load, LoadProgram, PopByte, bit_is_set, Core, pair}
use Rattle.uz_rules.proofs.Common.{with_register, with_pair, is_core_address, core_byte, effective_address, with_pointer_after}
use Rattle.uz_rules.proofs.Common.{loaded_bytes, content_after_loads, changed_core, IsByte, IsCore, EffectFits, is_timer_address, PadWiring}
use Rattle.uz_rules.proofs.Common.{Space, is_pin, plain_byte, byte_at, space_after, space_loads, Ends, Range, Head, Instance, ends}
use Rattle.uz_rules.proofs.Common.{is_single, IsWithin, pair_add_answer, only, exact_pair, pair_range, with_value, with_pair_value}
use Rattle.uz_rules.proofs.Common.{known_byte, ValueHolds, CoreMeets, cell_place, cell_range, is_main, is_handler, StackHolds, MemoryMeets}
use Rattle.uz_rules.proofs.Common.{HeadFits, all_flags, is_old, sreg_value, address_range, with_pointer_range, cell_value, value_at_address}
use Rattle.uz_rules.proofs.Common.{loaded_value, flash_value, depth_of, slot_value, transfer}
use Rattle.uz_rules.proofs.CoreKeeps.{whole, pair_word, pair_holds, val_meets}
use Rattle.uz_rules.proofs.MemoryKeeps.{HasRange, tracked_has_range}
use Rattle.uz_rules.proofs.SpaceStores.{choose_if, pin_low, timer_low}
use Rattle.uz_rules.proofs.CoreSteps.{exact_holds, core_same, sreg_holds, pair_val_meets, pointer_meets, address_holds, core_with_pointer}
use Rattle.uz_rules.proofs.CoreSteps.{core_with_pair, stepped_up}
use Rattle.uz_rules.proofs.RegisterClasses.{set_byte}

-- Loads leave RAM, and read it

pub content_bytes : {P : Type 0} (w : PadWiring P) (late : ℕ) (c : Space P) (ats : List ℕ)
    → (content_after_loads (space_loads w) late c ats).bytes ≡ c.bytes
content_bytes w late c [] = refl
content_bytes {P} w late c (at ∷ ats) =
    choose_if (λ (t : Space P). t.bytes ≡ c.bytes) (is_core_address at) _ _ (λ e. content_bytes w late c ats)
    (λ e. content_bytes w late ((space_loads w).content_after c at late) ats)

pub ram_not_core : (at : ℕ) → 256 ≤ at → is_core_address at ≡ false
ram_not_core at h = grind (arith, nat_tests)

pub ram_read : {P : Type 0} (w : PadWiring P) (s : Space P) (at : ℕ) → 256 ≤ at → at ≤ 4351 → byte_at w s at ≡ plain_byte s at
ram_read {P} w s at low high =
    let Same : ℕ → Type 0 = λ n. n ≡ plain_byte s at in
    choose_if Same (nat_eq at 0x20) _ _ (λ t. absurd (grind (arith, nat_tests)))
    (λ t. choose_if Same (is_pin at) _ _ (λ t. absurd (omega (arith, low, pin_low at t)))
    (λ t. choose_if Same (is_timer_address at) _ _ (λ t. absurd (omega (arith, low, timer_low at t)))
    (λ t. choose_if Same (nat_lt 0x10FF at) _ _ (λ t. absurd (grind (arith, nat_tests))) (λ t. refl))))

pub ram_loaded : {P : Type 0} (w : PadWiring P) (core : Core) (late : ℕ) (s : Space P) (at : ℕ) (more : List ℕ) → 256 ≤ at → at ≤ 4351
    → loaded_bytes (space_loads w) core late s (at ∷ more) ≡ (plain_byte s at ∷ loaded_bytes (space_loads w) core late
    ((space_loads w).content_after s at late) more)
ram_loaded w core late s at more low high = rw (ram_not_core at low, ram_read w (space_after late s) at low high) refl

-- the byte that one load gives
abbrev pub one_loaded : {P : Type 0} → PadWiring P → Core → ℕ → Space P → ℕ → ℕ
one_loaded w core late s at = if is_core_address at then core_byte core at else byte_at w (space_after late s) at

pub is_one_loaded : {P : Type 0} (w : PadWiring P) (core : Core) (late : ℕ) (s : Space P) (at : ℕ)
    → slice_index (loaded_bytes (space_loads w) core late s (at ∷ [])) 0 ≡ one_loaded w core late s at
is_one_loaded w core late s at = by_case (is_core_address at)
  where
    by_case : (t : Bool) → slice_index (if t then core_byte core at ∷ [] else byte_at w (space_after late s) at ∷ [])
        0 ≡ (if t then core_byte core at else byte_at w (space_after late s) at)
    by_case true = refl
    by_case false = refl

ram_one : {P : Type 0} (w : PadWiring P) (core : Core) (late : ℕ) (s : Space P) (at : ℕ) → 256 ≤ at → at ≤ 4351 → one_loaded w core late s
    at ≡ plain_byte s at
ram_one w core late s at low high = rw (ram_not_core at low) (ram_read w (space_after late s) at low high)

-- What is known of a byte that is loaded. The timer's count is known in a handler alone

module _ {P : Type 0} (w : PadWiring P) (head : Head) (inst : Instance) (o core : Core) (d late sampled : ℕ) (s : Space P)
    (fits : HeadFits head) (len : length inst.flags ≡ 7) (old : all_flags is_old inst.flags ≡ true → is_main inst.kind ≡ false)
    (c : IsCore core) (h : CoreMeets inst o core) (enabled : bit_is_set core.sreg 7 ≡ is_main inst.kind)
    (m : MemoryMeets head inst o d core.sp s.bytes)
    (ticks : is_handler inst.kind ≡ true → byte_at w (space_after late s) 0x84 ≡ sampled % 256) where
  val_at_holds : (at : ℕ) → one_loaded w core late s at < 256
      → ValueHolds (value_at_address head sampled inst at) o (one_loaded w core late s at)
  val_at_holds at byte = by_sreg (nat_eq at 0x5F) (nat_eq at 0x84) (is_handler inst.kind) refl refl refl
    where
      cell : (place : Option ℕ) (range : Option Ends) → cell_place head inst.kind at ≡ place → cell_range head at ≡ range
          → ValueHolds (cell_value inst.cells.items place range) o (one_loaded w core late s at)
      cell (Some j) range x y =
          let f : HasRange head.cells.items at = tracked_has_range head inst.kind at j x in
          let ram = fits.cells_ram at f.range f.is in
          rw (ram_one w core late s at ram.0 ram.1) (m.cells at j x)
      cell None (Some e) x y = let ram = fits.cells_ram at e y in rw (ram_one w core late s at ram.0 ram.1) (m.ranges at e y)
      cell None None x y = whole _ byte

      by_sreg : (a b t : Bool) → nat_eq at 0x5F ≡ a → nat_eq at 0x84 ≡ b → is_handler inst.kind ≡ t
          → ValueHolds (if a then sreg_value inst else if b && t then known_byte (sampled % 256) else
          cell_value inst.cells.items (cell_place head inst.kind at) (cell_range head at)) o (one_loaded w core late s at)
      by_sreg true b t p q r =
          let i : at ≡ 0x5F = grind (arith, nat_tests) in
          subst (λ a. ValueHolds (sreg_value inst) o (one_loaded w core late s a)) (sym i) (sreg_holds inst o core len old c h enabled)
      by_sreg false true true p q r =
          let i : at ≡ 0x84 = grind (arith, nat_tests) in
          let v : one_loaded w core late s 0x84 ≡ sampled % 256 = ticks r in
          subst (λ a. ValueHolds (known_byte (sampled % 256)) o (one_loaded w core late s a)) (sym i)
          (record { above = omega (arith, v); below = omega (arith, v) })
      by_sreg false true false p q r = cell (cell_place head inst.kind at) (cell_range head at) refl refl
      by_sreg false false t p q r = cell (cell_place head inst.kind at) (cell_range head at) refl refl

  loaded_holds : (at : ℕ) (a : Ends) → one_loaded w core late s at < 256 → IsWithin at a
      → ValueHolds (loaded_value head sampled inst a) o (one_loaded w core late s at)
  loaded_holds at a byte within = by_case (is_single a) refl
    where
      by_case : (t : Bool) → is_single a ≡ t → ValueHolds (if t then value_at_address head sampled inst a.lo else Range (ends 0 255)) o
          (one_loaded w core late s at)
      by_case true e = rw (only a at e within) (val_at_holds at byte)
      by_case false e = whole _ byte

  pub load_meets : (to : ℕ) (from : AddressMode) (image : FinMap nat_cmp ℕ) (following words : ℕ) → EffectFits (Load to from)
      → AllByRecursion IsByte (changed_core (Load to from) image words
      (loaded_bytes (space_loads w) core late s (effective_address from core ∷ [])) core).registers → effective_address from core < 65536
      → CoreMeets (transfer head image following sampled (Load to from) inst) o
      (changed_core (Load to from) image words (loaded_bytes (space_loads w) core late s (effective_address from core ∷ [])) core)
  load_meets to from image following words fit new low =
      let p = core_with_pointer from (effective_address from core) core low c in
      let is = is_one_loaded w core late s (effective_address from core) in
      let byte = set_byte (with_pointer_after from (effective_address from core) core).registers to
      (slice_index (loaded_bytes (space_loads w) core late s (effective_address from core ∷ [])) 0) (omega (arith, p.count, fit.0)) new in
      let pointer = pointer_meets from inst inst o core core c c fit.1 h h in
      let v = loaded_holds (effective_address from core) (address_range from inst) (subst (λ n. n < 256) is byte)
      (address_holds from inst o core c fit.1 h) in
      val_meets (with_pointer_range from inst inst) o (with_pointer_after from (effective_address from core) core) to
      (slice_index (loaded_bytes (space_loads w) core late s (effective_address from core ∷ [])) 0)
      (loaded_value head sampled inst (address_range from inst)) p fit.0 byte
      (subst (λ n. ValueHolds (loaded_value head sampled inst (address_range from inst)) o n) (sym is) v) pointer

-- LPM

flash_holds : (image : FinMap nat_cmp ℕ) (z : Ends) (o : Core) (x : ℕ) → IsWithin x z → byte_or_255 image x < 256
    → ValueHolds (flash_value image z) o (byte_or_255 image x)
flash_holds image z o x h b = by_case (is_single z) refl
  where
    by_case : (t : Bool) → is_single z ≡ t → ValueHolds (if t then known_byte (byte_or_255 image z.lo) else Range (ends 0 255)) o
        (byte_or_255 image x)
    by_case true e = rw (only z x e h) (record { above = omega arith; below = omega arith })
    by_case false e = whole _ b

pub load_program_meets : (to : ℕ) (increment : Bool) (head : Head) (image : FinMap nat_cmp ℕ) (following sampled words : ℕ)
    (loaded : List ℕ) (inst : Instance) (o core : Core) → to < 32 → IsCore core → AllByRecursion IsByte
    (changed_core (LoadProgram to increment) image words loaded core).registers → CoreMeets inst o core
    → CoreMeets (transfer head image following sampled (LoadProgram to increment) inst) o (changed_core (LoadProgram to increment) image
    words loaded core)
load_program_meets to true head image following sampled words loaded inst o core b c new h =
    let p = core_with_pair 30 ((pair core 30 + 1) % 65536) core (omega arith) c in
    let byte = set_byte (with_pair 30 ((pair core 30 + 1) % 65536) core).registers to (byte_or_255 image (pair core 30))
    (omega (arith, p.count, b)) new in
    let z = pair_holds inst o core 30 c h (omega arith) in
    let stepped = pair_val_meets inst o core 30 ((pair core 30 + 1) % 65536) (pair_add_answer (exact_pair inst 30) 1).span c (omega arith)
    (omega arith) (stepped_up (exact_pair inst 30) (pair core 30) (pair_word core 30 c) (exact_holds inst o core 30 c h (omega arith)))
    h in
    val_meets (with_pair_value 30 (pair_add_answer (exact_pair inst 30) 1).span inst) o (with_pair 30 ((pair core 30 + 1) % 65536) core) to
    (byte_or_255 image (pair core 30)) (flash_value image (pair_range inst 30)) p b byte
    (flash_holds image (pair_range inst 30) o (pair core 30) z byte) stepped
load_program_meets to false head image following sampled words loaded inst o core b c new h =
    let byte = set_byte core.registers to (byte_or_255 image (pair core 30)) (omega (arith, c.count, b)) new in
    val_meets inst o core to (byte_or_255 image (pair core 30)) (flash_value image (pair_range inst 30)) c b byte
    (flash_holds image (pair_range inst 30) o (pair core 30) (pair_holds inst o core 30 c h (omega arith)) byte) h

-- Slots

-- slot i from the top lies i above SP
pub slot_holds : (inst : Instance) (o : Core) (sp i : ℕ) (bytes : List ℕ) → StackHolds inst.stack.items o sp bytes → 1 ≤ i
    → i ≤ depth_of inst → ValueHolds (slot_value i inst) o (slice_index bytes (sp + i))
slot_holds inst o sp i bytes h some few =
    let e : sp + depth_of inst - (depth_of inst - i) ≡ sp + i = omega arith in
    subst (λ a. ValueHolds (slot_value i inst) o (slice_index bytes a)) e (h (depth_of inst - i) (omega arith))

pub pop_byte_meets : {P : Type 0} (w : PadWiring P) (to : ℕ) (head : Head) (image : FinMap nat_cmp ℕ) (following sampled words late d : ℕ)
    (inst : Instance) (o core : Core) (s : Space P) → to < 32 → HeadFits head → IsCore core
    → AllByRecursion IsByte (changed_core (PopByte to) image words (loaded_bytes (space_loads w) core late s ((core.sp + 1) % 65536 ∷ []))
    core).registers → CoreMeets inst o core → MemoryMeets head inst o d core.sp s.bytes → 1 ≤ depth_of inst → head.lo ≤ suc core.sp
    → CoreMeets (transfer head image following sampled (PopByte to) inst) o
    (changed_core (PopByte to) image words (loaded_bytes (space_loads w) core late s ((core.sp + 1) % 65536 ∷ [])) core)
pop_byte_meets {P} w to head image following sampled words late d inst o core s b fits c new h m some low =
    let at : (core.sp + 1) % 65536 ≡ core.sp + 1 = omega (arith, m.depth, fits.high, some) in
    let is : slice_index (loaded_bytes (space_loads w) core late s ((core.sp + 1) % 65536 ∷ [])) 0 ≡ plain_byte s (core.sp + 1) =
    rw at (ap (λ l. slice_index l 0) (ram_loaded w core late s (core.sp + 1) [] (omega (arith, fits.low, low))
    (omega (arith, m.depth, fits.high, some)))) in
    let byte = set_byte core.registers to (slice_index (loaded_bytes (space_loads w) core late s ((core.sp + 1) % 65536 ∷ [])) 0)
    (omega (arith, c.count, b)) new in
    let v : ValueHolds (slot_value 1 inst) o (plain_byte s (core.sp + 1)) = slot_holds inst o core.sp 1 s.bytes m.slots (omega arith)
    some in
    core_same (with_value to (slot_value 1 inst) inst) (transfer head image following sampled (PopByte to) inst) o
    (with_register to (slice_index (loaded_bytes (space_loads w) core late s ((core.sp + 1) % 65536 ∷ [])) 0) core)
    (changed_core (PopByte to) image words (loaded_bytes (space_loads w) core late s ((core.sp + 1) % 65536 ∷ [])) core) refl refl refl refl
    refl
    (val_meets inst o core to (slice_index (loaded_bytes (space_loads w) core late s ((core.sp + 1) % 65536 ∷ [])) 0) (slot_value 1 inst) c
    b byte (subst (λ n. ValueHolds (slot_value 1 inst) o n) (sym is) v) h)
