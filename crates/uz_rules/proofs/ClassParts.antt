-- Each class of effect leads where its draft says: registers, flags, stack, cells and events.
use Rattle.uz_rules.proofs.Common.{CoreMeets, same_Some, push_room, pop_some, call_room, return_slots, ◌≡◌, ℕ, ◌+◌, ◌-◌, ◌/◌, ◌%◌, ◌<◌, ◌≤◌}
use Rattle.uz_rules.proofs.Common.{true, false, Option, Some, None, List, [], ◌∷◌, ◌++◌, fold, filter, refl, sym, ◌∙◌, ap, subst, arith}
use Rattle.uz_rules.proofs.Common.{nat_cmp, FinMap, AllByRecursion, AddressMode, Direct, Displacement, PostIncrement, PreDecrement, Effect}
use Rattle.uz_rules.proofs.Common.{CopyByte, CopyPair, Binary, Unary, AddToPair, Multiply, Load, Store, PushByte, PopByte, LoadProgram}
use Rattle.uz_rules.proofs.Common.{WriteIoBit, WriteFlag, LoadBit, StoreBit, SkipIf, Jump, Return, Stop, HeldStore, Byte, bit_is_set}
use Rattle.uz_rules.proofs.Common.{with_bit, product_of, Core, register, pair, with_sp, is_core_address, effective_address, following_pc}
use Rattle.uz_rules.proofs.Common.{load_addresses, loaded_bytes, content_after_loads, pc_stores, stores_of, with_store, leaves_core}
use Rattle.uz_rules.proofs.Common.{changed_core, binary_result, unary_result, add_to_pair_result, operand_value, IsByte, IsCore}
use Rattle.uz_rules.proofs.Common.{AddressModeFits, EffectFits, PadWiring, Space, byte_at, space_after, space_loads, sync_level, Head}
use Rattle.uz_rules.proofs.Common.{EventKind, Instance, value_at, is_main, is_handler, address_range, with_pointer_range, stored_in}
use Rattle.uz_rules.proofs.Common.{with_slots, without_slots, pc_values, transfer, emission_at, fail_of, returns_from_interrupt}
use Rattle.uz_rules.proofs.Common.{binary_seven, bit_of_with_bit, enabled_kept, pair_seven, unary_seven}
use Rattle.uz_rules.proofs.StoreClasses.{Stored, Leads, none_shows, push_core, push_calls, push_leads, call_leads, bit_leads, store_stored}
use Rattle.uz_rules.proofs.Classes.{pointer_core, pointer_rest, room_for, Before, Parts, low_room, memory_same, quiet, flag_enabled}
use Rattle.uz_rules.proofs.Classes.{may_be_stored, size_stored}
use Rattle.uz_core.specs.declared.machine.JumpTarget.{JumpTarget}
use Rattle.uz_rules.proofs.CoreKeeps.{register_byte, pair_word}
use Rattle.uz_rules.proofs.MemoryKeeps.{pop_meets}
use Rattle.uz_rules.proofs.CoreSteps.{core_same, pointer_meets, address_holds}
use Rattle.uz_rules.proofs.RegisterClasses.{copy_byte, copy_pair, binary_meets, unary_meets, add_to_pair_meets, multiply_meets}
use Rattle.uz_rules.proofs.RegisterClasses.{write_flag_meets, load_bit_meets, store_bit_meets, set_byte}
use Rattle.uz_rules.proofs.LoadClasses.{content_bytes, load_meets, load_program_meets, pop_byte_meets, ram_not_core}

below_address : (mode : AddressMode) (core : Core) → AddressModeFits mode → IsCore core → effective_address mode core < 65536
below_address (Direct k) core fits c = fits
below_address (Displacement p q) core fits c = omega arith
below_address (PostIncrement p) core fits c = pair_word core p c
below_address (PreDecrement p) core fits c = omega arith

abbrev PartsOf : {P : Type 0} → PadWiring P → Head → FinMap nat_cmp ℕ → ℕ → ℕ → ℕ → ℕ → ℕ → ℕ → Effect → Instance → Core → Core → Space P
    → Option EventKind → Type 0
PartsOf w head image following sampled words late c d e inst o core s emitted =
    Parts w head inst (transfer head image following sampled e inst) o d
    (changed_core e image words (loaded_bytes (space_loads w) core late s (load_addresses e core)) core)
    (filter leaves_core (stores_of e words core)) (space_after c (content_after_loads (space_loads w) late s (load_addresses e core)))
    emitted

abbrev BytesOf : {P : Type 0} → PadWiring P → FinMap nat_cmp ℕ → ℕ → ℕ → Effect → Core → Space P → Type 0
BytesOf w image words late e core s = AllByRecursion IsByte
    (changed_core e image words (loaded_bytes (space_loads w) core late s (load_addresses e core)) core).registers

-- One effect on a core and a data space that meet an instance; in a handler `sampled` is what a load of TCNT1L gives

module _ {P : Type 0} (w : PadWiring P) (head : Head) (image : FinMap nat_cmp ℕ) (following sampled words late c d : ℕ) (inst : Instance)
    (o core : Core) (s : Space P) (b : Before head inst o d core s) where
  -- nothing is emitted
  silent : {r : Instance} {new : Core} {calls : List HeldStore} {t : Space P} {emitted : Option EventKind} → Some None ≡ Some emitted
      → Parts w head inst r o d new calls t None → Parts w head inst r o d new calls t emitted
  silent {r} {new} {calls} {t} e h = subst (λ x. Parts w head inst r o d new calls t x) (same_Some _ _ e) h

  -- and nothing is stored, where stack, cells and SP stay
  still : {r : Instance} {new : Core} {emitted : Option EventKind} → Some None ≡ Some emitted → CoreMeets r o new
      → bit_is_set new.sreg 7 ≡ is_main inst.kind → inst.kind ≡ r.kind → inst.stack ≡ r.stack → inst.cells ≡ r.cells → core.sp ≡ new.sp
      → Parts w head inst r o d new [] (space_after c s) emitted
  still {r} {new} e meets on kind stack cells sp =
      silent e (quiet w head inst r o d core new s (space_after c s) meets on b.memory kind stack cells sp refl)

  store_parts : (to : AddressMode) (r : ℕ) (emitted : Option EventKind) → EffectFits (Store to r) → fail_of head (Store to r) inst ≡ None
      → emission_at (sync_level s) (Store to r) inst ≡ Some emitted
      → PartsOf w head image following sampled words late c d (Store to r) inst o core s emitted
  store_parts to r emitted fits fail em = record {
    core_meets = pointer_meets to inst now o core new b.is_core stored.is_core fits.0 b.meets stored.meets;
    enabled = ap (λ x. bit_is_set x 7) (pointer_core to (effective_address to core) new).1 ∙ stored.enabled;
    leads = record {
      memory = memory_same head now (with_pointer_range to inst now) o d core.sp _ _ _ (pointer_rest to inst now).0
          (pointer_rest to inst now).1 (pointer_rest to inst now).2
          (sym ((pointer_core to (effective_address to core) new).0 ∙ stored.sp)) refl stored.leads.memory;
      shows = stored.leads.shows;
    };
  }
    where
      now : Instance
      now = stored_in head (address_range to inst) (value_at inst.regs r) inst

      new : Core
      new = fold with_store core (Byte (effective_address to core) (register core r) ∷ [])

      stored : Stored w head inst now o d (effective_address to core) (register core r) core (space_after c s) emitted
      stored =
          store_stored w head inst o d (effective_address to core) (register core r) core (space_after c s) b.fits b.size b.is_core b.meets
          b.enabled b.memory (low_room head inst o d core s b) (register_byte core r b.is_core) (address_range to inst)
          (value_at inst.regs r) emitted (b.meets.regs r fits.1) (address_holds to inst o core b.is_core fits.0 b.meets)
          (may_be_stored head inst (sync_level s) to r emitted fail em)

  push_parts : (r : ℕ) → r < 32 → fail_of head (PushByte r) inst ≡ None
      → PartsOf w head image following sampled words late c d (PushByte r) inst o core s None
  push_parts r fits fail =
      let room = room_for head inst o d core s b 1 (omega (arith, push_room head inst r fail)) in
      let ram : 256 ≤ core.sp = omega (arith, b.fits.low, room) in
      let same = push_core core core.sp (register core r) ram in
      let calls = push_calls core.sp (register core r) ram in
      let sp : (core.sp + 65535) % 65536 ≡ core.sp - 1 = omega (arith, ram, b.is_core.sp) in
      record {
        core_meets = core_same inst pushed o core (with_sp ((core.sp + 65535) % 65536)
            (fold with_store core (Byte core.sp (register core r) ∷ []))) refl refl refl (ap (λ k. k.registers) (sym same))
            (ap (λ k. k.sreg) (sym same)) b.meets;
        enabled = ap (λ k. bit_is_set k.sreg 7) same ∙ b.enabled;
        leads = subst (λ cs. Leads w head pushed o d ((core.sp + 65535) % 65536) cs (space_after c s) None) (sym calls)
            (subst (λ n. Leads w head pushed o d n (Byte core.sp (register core r) ∷ []) (space_after c s) None) (sym sp)
            (push_leads w head inst o d core.sp (register core r) (value_at inst.regs r) (space_after c s) b.fits b.size
            (record { slots = b.memory.slots; cells = b.memory.cells; ranges = b.memory.ranges; depth = b.memory.depth })
            (omega (arith, room)) (register_byte core r b.is_core) (b.meets.regs r fits)));
      }
    where
      pushed : Instance
      pushed = with_slots (inst.stack.items ++ value_at inst.regs r ∷ []) inst

  call_parts : (target : JumpTarget) → following ≡ following_pc words core → fail_of head (Jump target true) inst ≡ None
      → PartsOf w head image following sampled words late c d (Jump target true) inst o core s None
  call_parts target is fail =
      let room = room_for head inst o d core s b 2 (call_room head inst target fail) in
      let ram : 256 ≤ core.sp - 1 = omega (arith, b.fits.low, room) in
      let next : (core.sp + 65535) % 65536 ≡ core.sp - 1 = omega (arith, ram, b.is_core.sp) in
      let sp : (core.sp + 65534) % 65536 ≡ core.sp - 2 = omega (arith, ram, b.is_core.sp) in
      let stores : pc_stores pc core ≡ two = rw next refl in
      let first : is_core_address core.sp ≡ false = ram_not_core core.sp (omega arith) in
      let second : is_core_address (core.sp - 1) ≡ false = ram_not_core (core.sp - 1) ram in
      let same : fold with_store core (pc_stores pc core) ≡ core = ap (λ cs. fold with_store core cs) stores ∙ rw (first, second) refl in
      let calls : filter leaves_core (pc_stores pc core) ≡ two = ap (λ cs. filter leaves_core cs) stores ∙ rw (first, second) refl in
      record {
        core_meets = core_same inst (called following) o core (with_sp ((core.sp + 65534) % 65536)
            (fold with_store core (pc_stores pc core))) refl refl refl (ap (λ k. k.registers) (sym same))
            (ap (λ k. k.sreg) (sym same)) b.meets;
        enabled = ap (λ k. bit_is_set k.sreg 7) same ∙ b.enabled;
        leads = subst (λ n. Leads w head (called n) o d ((core.sp + 65534) % 65536) (filter leaves_core (pc_stores pc core))
            (space_after c s) None) (sym is)
            (subst (λ cs. Leads w head (called pc) o d ((core.sp + 65534) % 65536) cs (space_after c s) None) (sym calls)
            (subst (λ n. Leads w head (called pc) o d n two (space_after c s) None) (sym sp)
            (call_leads w head inst o d core.sp pc (space_after c s) b.fits b.size
            (size_stored w (space_after c s) core.sp (pc % 256) ∙ b.size)
            (record { slots = b.memory.slots; cells = b.memory.cells; ranges = b.memory.ranges; depth = b.memory.depth })
            (omega (arith, room)) (omega arith))));
      }
    where
      pc : ℕ
      pc = following_pc words core

      two : List HeldStore
      two = Byte core.sp (pc % 256) ∷ Byte (core.sp - 1) (pc / 256) ∷ []

      called : ℕ → Instance
      called n = with_slots (inst.stack.items ++ pc_values n) inst

  pub parts_of : (e : Effect) (emitted : Option EventKind) → EffectFits e → BytesOf w image words late e core s
      → following ≡ following_pc words core → (is_handler inst.kind ≡ true → byte_at w (space_after late s) 0x84 ≡ sampled % 256)
      → returns_from_interrupt e ≡ false → fail_of head e inst ≡ None → emission_at (sync_level s) e inst ≡ Some emitted
      → PartsOf w head image following sampled words late c d e inst o core s emitted
  parts_of (CopyByte to source) emitted fits new f ticks back fail em =
      still em (copy_byte to source inst o core fits b.is_core b.meets) b.enabled refl refl refl refl
  parts_of (CopyPair to r) emitted fits new f ticks back fail em =
      still em (copy_pair to r inst o core fits.0.0 fits.1.0 b.is_core b.meets) b.enabled refl refl refl refl
  parts_of (Binary op to source true) emitted fits new f ticks back fail em =
      still em (binary_meets op to source true head image following sampled words [] inst o core fits b.is_core new b.meets)
      (enabled_kept (binary_result op (register core to) (operand_value source core) core.sreg) core.sreg (binary_seven op _ _ core.sreg)
      ∙ b.enabled) refl refl refl refl
  parts_of (Binary op to source false) emitted fits new f ticks back fail em =
      still em (binary_meets op to source false head image following sampled words [] inst o core fits b.is_core new b.meets)
      (enabled_kept (binary_result op (register core to) (operand_value source core) core.sreg) core.sreg (binary_seven op _ _ core.sreg)
      ∙ b.enabled) refl refl refl refl
  parts_of (Unary op to) emitted fits new f ticks back fail em =
      still em (unary_meets op to head image following sampled words [] inst o core fits b.is_core new b.meets)
      (enabled_kept (unary_result op (register core to) core.sreg) core.sreg (unary_seven op _ core.sreg) ∙ b.enabled) refl refl refl refl
  parts_of (AddToPair to k subtract) emitted fits new f ticks back fail em =
      still em (add_to_pair_meets to k subtract head image following sampled words [] inst o core fits b.is_core b.meets)
      (enabled_kept (add_to_pair_result subtract (pair core to) k) core.sreg (pair_seven subtract _ k) ∙ b.enabled) refl refl refl refl
  parts_of (Multiply to r d_signed r_signed shifted) emitted fits new f ticks back fail em =
      still em (multiply_meets to r d_signed r_signed shifted head image following sampled words [] inst o core fits b.is_core new b.meets)
      (enabled_kept (product_of (register core to) (register core r) d_signed r_signed shifted) core.sreg refl ∙ b.enabled)
      refl refl refl refl
  parts_of (Load to from) emitted fits new f ticks back fail em =
      silent em (quiet w head inst _ o d core _ s (space_after c (content_after_loads (space_loads w) late s
      (effective_address from core ∷ [])))
      (load_meets w head inst o core d late sampled s b.fits b.limits.flags b.limits.old b.is_core b.meets b.enabled b.memory ticks to from
      image following words fits new (below_address from core fits.1 b.is_core))
      (ap (λ x. bit_is_set x 7) (pointer_core from (effective_address from core) core).1 ∙ b.enabled) b.memory
      (pointer_rest from inst inst).0
      (pointer_rest from inst inst).1 (pointer_rest from inst inst).2 (sym (pointer_core from (effective_address from core) core).0)
      (sym (content_bytes w late s (effective_address from core ∷ []))))
  parts_of (Store to r) emitted fits new f ticks back fail em = store_parts to r emitted fits fail em
  parts_of (PushByte r) emitted fits new f ticks back fail em = silent em (push_parts r fits fail)
  parts_of (PopByte to) emitted fits new f ticks back fail em =
      let some = pop_some head inst to fail in
      let sp : (core.sp + 1) % 65536 ≡ core.sp + 1 = omega (arith, b.memory.depth, b.fits.high, some) in
      let popped = pop_meets head inst o d core.sp ((core.sp + 1) % 65536) 1 s.bytes b.memory some sp in
      silent em (record {
        core_meets = pop_byte_meets w to head image following sampled words late d inst o core s fits b.fits b.is_core new b.meets b.memory
            some (low_room head inst o d core s b);
        enabled = b.enabled;
        leads = record {
          memory = memory_same head (without_slots 1 inst) _ o d ((core.sp + 1) % 65536) _ s.bytes _ refl refl refl refl
              (sym (content_bytes w late s ((core.sp + 1) % 65536 ∷ []))) popped;
          shows = none_shows w (space_after c (content_after_loads (space_loads w) late s ((core.sp + 1) % 65536 ∷ [])));
        };
      })
  parts_of (LoadProgram to true) emitted fits new f ticks back fail em =
      still em (load_program_meets to true head image following sampled words [] inst o core fits b.is_core new b.meets) b.enabled
      refl refl refl refl
  parts_of (LoadProgram to false) emitted fits new f ticks back fail em =
      still em (load_program_meets to false head image following sampled words [] inst o core fits b.is_core new b.meets) b.enabled
      refl refl refl refl
  parts_of (WriteIoBit at bit set) emitted fits new f ticks back fail em = record {
    core_meets = b.meets;
    enabled = b.enabled;
    leads = bit_leads w head inst o d core.sp at bit set (space_after c s) emitted b.fits b.size b.memory (low_room head inst o d core s b)
        fits.0.1 fits.1 em;
  }
  parts_of (WriteFlag flag set) emitted fits new f ticks back fail em =
      still em (write_flag_meets flag set inst o core fits b.meets)
      (flag_enabled flag set (is_main inst.kind) core.sreg fits fail b.enabled) refl refl refl refl
  parts_of (LoadBit to bit) emitted fits new f ticks back fail em =
      let byte = set_byte core.registers to (with_bit bit (bit_is_set core.sreg 6) (register core to))
      (omega (arith, b.is_core.count, fits.0)) new in
      still em (load_bit_meets to bit inst o core fits.0 fits.1 b.is_core b.meets byte) b.enabled refl refl refl refl
  parts_of (StoreBit to bit) emitted fits new f ticks back fail em =
      still em (store_bit_meets to bit inst o core fits.0 b.is_core b.meets)
      (bit_of_with_bit 6 7 core.sreg (bit_is_set (register core to) bit) (omega arith) (omega arith) ∙ b.enabled) refl refl refl refl
  parts_of (SkipIf test) emitted fits new f ticks back fail em =
      silent em (quiet w head inst _ o d core _ s (space_after c (content_after_loads (space_loads w) late s
      (load_addresses (SkipIf test) core)))
      b.meets b.enabled b.memory refl refl refl refl (sym (content_bytes w late s (load_addresses (SkipIf test) core))))
  parts_of (Jump target true) emitted fits new f ticks back fail em = silent em (call_parts target f fail)
  parts_of (Return true) emitted fits new f ticks back fail em = absurd cc
  parts_of (Return false) emitted fits new f ticks back fail em =
      let two = return_slots head inst fail in
      let sp : (core.sp + 2) % 65536 ≡ core.sp + 2 = omega (arith, b.memory.depth, b.fits.high, two) in
      let popped = pop_meets head inst o d core.sp ((core.sp + 2) % 65536) 2 s.bytes b.memory two sp in
      silent em (record {
        core_meets = core_same inst (without_slots 2 inst) o core _ refl refl refl refl refl b.meets;
        enabled = b.enabled;
        leads = record {
          memory = memory_same head (without_slots 2 inst) (without_slots 2 inst) o d ((core.sp + 2) % 65536) _ s.bytes _ refl refl
              refl refl
              (sym (content_bytes w late s (load_addresses (Return false) core))) popped;
          shows = none_shows w (space_after c (content_after_loads (space_loads w) late s (load_addresses (Return false) core)));
        };
      })
  parts_of Stop emitted fits new f ticks back fail em = absurd cc
  parts_of e emitted fits new f ticks back fail em = still em b.meets b.enabled refl refl refl refl
