-- An instruction and an interrupt's entry keep the core's parts in range: one case a class of effect.
use Rattle.std.proofs.Common.{◌≡◌, ◌<◌, ℕ, zero, suc, ◌+◌, ◌-◌, ◌*◌, ◌/◌, ◌%◌, ◌^◌, Bool, true, false, if◌then◌else◌, Option, Some, None}
use Rattle.std.proofs.Common.{List, [], ◌∷◌, fold, filter, nat_lt, nat_eq, refl, sym, ◌∙◌, ap, subst, arith}
use Rattle.std.specs.Prelude.{unwrap_or, ℤ, pos, negsuc, ◌*ℤ◌}
use Rattle.std.specs.Ordering.{nat_cmp}
use Rattle.std.specs.FinMap.{FinMap, get}
use Rattle.std.specs.List.{AllByRecursion}
use Rattle.std.proofs.lemmas.List.{length-set}
use Rattle.std.proofs.lemmas.Nat.{or_lt, xor_lt, and_le_l}
use Rattle.uz_hex.specs.Cells.{IsFlash}
use Rattle.avr_table.specs.declared.Outcome.{Outcome}
use Rattle.avr_table.specs.declared.Outcome.TheVariants.{Taken}
use Rattle.uz_core.specs.declared.machine.Operand.{Operand}
use Rattle.uz_core.specs.declared.machine.Operand.TheVariants.{Register, Constant}
use Rattle.uz_core.specs.declared.machine.BinaryOp.{BinaryOp}
use Rattle.uz_core.specs.declared.machine.BinaryOp.TheVariants as binary
use Rattle.uz_core.specs.declared.machine.UnaryOp.{UnaryOp}
use Rattle.uz_core.specs.declared.machine.UnaryOp.TheVariants as unary
use Rattle.uz_core.specs.declared.machine.AddressMode.{AddressMode}
use Rattle.uz_core.specs.declared.machine.AddressMode.TheVariants.{Direct, Displacement, PostIncrement, PreDecrement}
use Rattle.uz_core.specs.declared.machine.JumpTarget.{JumpTarget}
use Rattle.uz_core.specs.declared.machine.JumpTarget.TheVariants.{Absolute, Relative, Indirect}
use Rattle.uz_core.specs.declared.machine.Effect.{Effect}
use Rattle.uz_core.specs.declared.machine.Effect.TheVariants.{CopyByte, CopyPair, Binary, Unary, AddToPair, Multiply, Load, Store, PushByte}
use Rattle.uz_core.specs.declared.machine.Effect.TheVariants.{PopByte, LoadProgram, WriteIoBit, WriteFlag, LoadBit, StoreBit, Branch, SkipIf}
use Rattle.uz_core.specs.declared.machine.Effect.TheVariants.{Jump, Return}
use Rattle.uz_core.specs.declared.machine.HeldStore.{HeldStore}
use Rattle.uz_core.specs.declared.machine.HeldStore.TheVariants.{Byte, Bit}
use Rattle.uz_core.specs.Arithmetic.{AluResult, bit_value, bit_is_set, with_bit, difference_of, chained_result, with_z_cleared}
use Rattle.uz_core.specs.Arithmetic.{product_of, left_shift_of, low_word, factor, merged_sreg}
use Rattle.uz_core.specs.Core.{Core, LoadModel, StepResult, register, pair, with_register, with_pair, with_sp, with_sreg, with_flags}
use Rattle.uz_core.specs.Core.{operand_value, binary_result, unary_result, add_to_pair_result, is_core_address, core_byte}
use Rattle.uz_core.specs.Core.{with_core_byte, effective_address, with_pointer_after, following_pc, load_addresses, sample_clock}
use Rattle.uz_core.specs.Core.{loaded_bytes, content_after_loads, pc_stores, stores_of, with_store, leaves_core, jump_address, next_pc}
use Rattle.uz_core.specs.Core.{changed_core, effect_result, interrupted_core}
use Rattle.uz_core.specs.CoreRange.{IsByte, IsCore, IsHeldStore, IsLoadModel}
use Rattle.uz_core.specs.OperandRanges.{OperandFits, AddressModeFits, JumpTargetFits, EffectFits}
use Rattle.uz_core.proofs.ByteLists.{byte_at, bytes_set}

-- Numbers

bit_below : (b : Bool) → bit_value b < 2
bit_below true = omega arith
bit_below false = omega arith

choose : {A : Type 0} → (P : A → Type 0) (b : Bool) (x y : A) → P x → P y → P (if b then x else y)
choose P true x y p q = p
choose P false x y p q = q

with_bit_below : (k : ℕ) (b : Bool) (n : ℕ) → k < 8 → IsByte n → IsByte (with_bit k b n)
with_bit_below k true n h hn = or_lt 8 n (2 ^ k) hn (power k h)
  where
    power : (k : ℕ) → k < 8 → 2 ^ k < 2 ^ 8
    power zero h = omega arith
    power (suc zero) h = omega arith
    power (suc (suc zero)) h = omega arith
    power (suc (suc (suc zero))) h = omega arith
    power (suc (suc (suc (suc zero)))) h = omega arith
    power (suc (suc (suc (suc (suc zero))))) h = omega arith
    power (suc (suc (suc (suc (suc (suc zero)))))) h = omega arith
    power (suc (suc (suc (suc (suc (suc (suc zero))))))) h = omega arith
    power (suc (suc (suc (suc (suc (suc (suc (suc k)))))))) h = absurd (omega arith)
with_bit_below k false n h hn = omega (arith, and_le_l n (255 - 2 ^ k))

-- SREG after an operation is as wide as before

abbrev room : List (Option Bool) → ℕ
room [] = 2
room (flag ∷ flags) = 2 * room flags

merged_below : (flags : List (Option Bool)) (s : ℕ) → s < room flags → merged_sreg flags s < room flags
merged_below [] s h = h
merged_below (None ∷ flags) s h = omega (arith, merged_below flags (s / 2) (omega arith))
merged_below (Some b ∷ flags) s h = omega (arith, bit_below b, merged_below flags (s / 2) (omega arith))

-- a result that is a byte, or for a pair a word, with its seven flags
record Fits (bound : ℕ) (r : AluResult) : Type 0 where
  value : r.value < bound
  flags : room r.flags ≡ 256

chained_fits : (r : AluResult) (c z n v s h t : Option Bool) → r.flags ≡ c ∷ z ∷ n ∷ v ∷ s ∷ h ∷ t ∷ [] → r.value < 256
    → (zero_before : Bool) → Fits 256 (chained_result r zero_before)
chained_fits r c z n v s h t e below true = record { value = below; flags = ap room e }
chained_fits r c z n v s h t e below false = record { value = below; flags = ap (λ fs. room (with_z_cleared fs)) e }

binary_fits : (op : BinaryOp) (a b sreg : ℕ) → IsByte a → IsByte b → Fits 256 (binary_result op a b sreg)
binary_fits (binary.Add false) a b sreg ha hb = record { value = omega arith; flags = refl }
binary_fits (binary.Add true) a b sreg ha hb = record { value = omega arith; flags = refl }
binary_fits (binary.Subtract false) a b sreg ha hb = record { value = omega arith; flags = refl }
binary_fits (binary.Subtract true) a b sreg ha hb = chained_fits (difference_of a b (bit_is_set sreg 0)) _ _ _ _ _ _ _ refl (omega arith)
    (bit_is_set sreg 1)
binary_fits binary.And a b sreg ha hb = record { value = omega (arith, and_le_l a b); flags = refl }
binary_fits binary.Or a b sreg ha hb = record { value = or_lt 8 a b ha hb; flags = refl }
binary_fits binary.Xor a b sreg ha hb = record { value = xor_lt 8 a b ha hb; flags = refl }

unary_fits : (op : UnaryOp) (a sreg : ℕ) → IsByte a → Fits 256 (unary_result op a sreg)
unary_fits unary.Complement a sreg h = record { value = omega arith; flags = refl }
unary_fits unary.Negate a sreg h = record { value = omega arith; flags = refl }
unary_fits unary.Swap a sreg h = record { value = omega arith; flags = refl }
unary_fits unary.Increment a sreg h = record { value = omega arith; flags = refl }
unary_fits unary.Decrement a sreg h = record { value = omega arith; flags = refl }
unary_fits unary.ArithmeticShiftRight a sreg h = record { value = omega arith; flags = refl }
unary_fits unary.LogicalShiftRight a sreg h = record { value = omega arith; flags = refl }
unary_fits unary.RotateRight a sreg h = record { value = omega (arith, bit_below (bit_is_set sreg 0)); flags = refl }

pair_fits : (subtract : Bool) (p k : ℕ) → Fits 65536 (add_to_pair_result subtract p k)
pair_fits false p k = record { value = omega arith; flags = refl }
pair_fits true p k = record { value = omega arith; flags = refl }

low_word_below : (z : ℤ) → low_word z < 65536
unfolding low_word
low_word_below (pos a) = omega arith
low_word_below (negsuc a) = omega arith

left_shift_below : (b : Bool) (w : ℕ) → w < 65536 → left_shift_of b w < 65536
left_shift_below true w h = omega arith
left_shift_below false w h = h

product_fits : (a b : ℕ) (a_signed b_signed shifted : Bool) → Fits 65536 (product_of a b a_signed b_signed shifted)
product_fits a b a_signed b_signed shifted =
    record { value = left_shift_below shifted _ (low_word_below (factor a a_signed *ℤ factor b b_signed)); flags = refl }

-- The core's parts

register_byte : (s : Core) (n : ℕ) → IsCore s → IsByte (register s n)
register_byte s n h = byte_at s.registers n h.registers

pair_word : (s : Core) (n : ℕ) → IsCore s → pair s n < 65536
pair_word s n h = omega (arith, register_byte s n h, register_byte s (n + 1) h)

operand_byte : (source : Operand) (s : Core) → OperandFits source → IsCore s → IsByte (operand_value source s)
operand_byte (Register r) s fits h = register_byte s r h
operand_byte (Constant k) s fits h = fits

core_byte_is : (s : Core) (at : ℕ) → IsCore s → IsByte (core_byte s at)
core_byte_is s at h =
    choose IsByte (nat_lt at 0x20) _ _ (register_byte s at h)
    (choose IsByte (nat_eq at 0x5D) _ _ (omega arith)
    (choose IsByte (nat_eq at 0x5E) _ _ (omega (arith, h.sp)) h.sreg))

kept_register : (n v : ℕ) (s : Core) → IsByte v → IsCore s → IsCore (with_register n v s)
kept_register n v s b h = record {
  count = length-set s.registers n v ∙ h.count;
  registers = bytes_set s.registers n v b h.registers;
  sreg = h.sreg;
  sp = h.sp;
  pc = h.pc;
}

kept_pair : (n w : ℕ) (s : Core) → w < 65536 → IsCore s → IsCore (with_pair n w s)
kept_pair n w s b h = kept_register (n + 1) (w / 256) (with_register n (w % 256) s) (omega arith)
    (kept_register n (w % 256) s (omega arith) h)

kept_sp : (sp : ℕ) (s : Core) → sp < 65536 → IsCore s → IsCore (with_sp sp s)
kept_sp sp s b h = record { count = h.count; registers = h.registers; sreg = h.sreg; sp = b; pc = h.pc }

kept_sreg : (sreg : ℕ) (s : Core) → IsByte sreg → IsCore s → IsCore (with_sreg sreg s)
kept_sreg sreg s b h = record { count = h.count; registers = h.registers; sreg = b; sp = h.sp; pc = h.pc }

kept_pc : (pc : ℕ) (s : Core) → pc < 32768 → IsCore s → IsCore (record s { pc = pc })
kept_pc pc s b h = record { count = h.count; registers = h.registers; sreg = h.sreg; sp = h.sp; pc = b }

kept_flags : (bound : ℕ) (r : AluResult) (s : Core) → Fits bound r → IsCore s → IsCore (with_flags r s)
kept_flags bound r s f h =
    kept_sreg _ s (subst (λ x. merged_sreg r.flags s.sreg < x) f.flags
    (merged_below r.flags s.sreg (subst (λ x. s.sreg < x) (sym f.flags) h.sreg))) h

kept_core_byte : (at v : ℕ) (s : Core) → IsByte v → IsCore s → IsCore (with_core_byte at v s)
kept_core_byte at v s b h =
    choose IsCore (nat_lt at 0x20) _ _ (kept_register at v s b h)
    (choose IsCore (nat_eq at 0x5D) _ _ (kept_sp (s.sp / 256 * 256 + v) s (omega (arith, h.sp)) h)
    (choose IsCore (nat_eq at 0x5E) _ _ (kept_sp (v * 256 + s.sp % 256) s (omega arith) h) (kept_sreg v s b h)))

kept_store : (c : HeldStore) (s : Core) → IsHeldStore c → IsCore s → IsCore (with_store s c)
kept_store (Byte at v) s c h = choose IsCore (is_core_address at) _ _ (kept_core_byte at v s c.1 h) h
kept_store (Bit at b set) s c h = h

kept_stores : (cs : List HeldStore) (s : Core) → AllByRecursion IsHeldStore cs → IsCore s → IsCore (fold with_store s cs)
kept_stores [] s c h = h
kept_stores (c ∷ cs) s all h = kept_stores cs (with_store s c) all.1 (kept_store c s all.0 h)

address_below : (mode : AddressMode) (s : Core) → AddressModeFits mode → IsCore s → effective_address mode s < 65536
address_below (Direct k) s fits h = fits
address_below (Displacement p q) s fits h = omega arith
address_below (PostIncrement p) s fits h = pair_word s p h
address_below (PreDecrement p) s fits h = omega arith

kept_pointer : (mode : AddressMode) (at : ℕ) (s : Core) → at < 65536 → IsCore s → IsCore (with_pointer_after mode at s)
kept_pointer (PostIncrement p) at s b h = kept_pair p ((at + 1) % 65536) s (omega arith) h
kept_pointer (PreDecrement p) at s b h = kept_pair p at s b h
kept_pointer mode at s b h = h

-- The stores

pub pc_stores_fit : (pc : ℕ) (s : Core) → pc < 32768 → IsCore s → AllByRecursion IsHeldStore (pc_stores pc s)
pc_stores_fit pc s b h = ((h.sp, omega arith), ((omega arith, omega arith), tt))

stores_fit : (e : Effect) (words : ℕ) (s : Core) → EffectFits e → IsCore s → AllByRecursion IsHeldStore (stores_of e words s)
stores_fit (Store to r) words s fits h = ((address_below to s fits.0 h, register_byte s r h), tt)
stores_fit (PushByte r) words s fits h = ((h.sp, register_byte s r h), tt)
stores_fit (WriteIoBit at b set) words s fits h = ((omega (arith, fits.0.1), fits.1), tt)
stores_fit (Jump target true) words s fits h = pc_stores_fit (following_pc words s) s (omega arith) h
stores_fit e words s fits h = tt

filter_one : (b : Bool) (c : HeldStore) (cs : List HeldStore) → IsHeldStore c → AllByRecursion IsHeldStore cs → AllByRecursion IsHeldStore
    (if b then c ∷ cs else cs)
filter_one true c cs h all = (h, all)
filter_one false c cs h all = all

filter_keeps : (test : HeldStore → Bool) (cs : List HeldStore) → AllByRecursion IsHeldStore cs → AllByRecursion IsHeldStore (filter test cs)
filter_keeps test [] h = h
filter_keeps test (c ∷ cs) h = filter_one (test c) c (filter test cs) h.0 (filter_keeps test cs h.1)

-- The loads

loaded_byte : {C : Type 0} → (model : LoadModel C) (P : C → Type 0) → IsLoadModel model P → (s : Core) (late : ℕ) (c : C) (ats : List ℕ)
    → IsCore s → P c →
    AllByRecursion IsByte (loaded_bytes model s late c ats)
loaded_byte model P m s late c [] h p = tt
loaded_byte model P m s late c (at ∷ ats) h p =
    choose (AllByRecursion IsByte) (is_core_address at) _ _
    (core_byte_is s at h, loaded_byte model P m s late c ats h p)
    (m.byte c at late p, loaded_byte model P m s late (model.content_after c at late) ats h (m.content_after c at late p))

content_kept : {C : Type 0} → (model : LoadModel C) (P : C → Type 0) → IsLoadModel model P → (late : ℕ) (c : C) (ats : List ℕ) → P c
    → P (content_after_loads model late c ats)
content_kept model P m late c [] p = p
content_kept model P m late c (at ∷ ats) p =
    choose P (is_core_address at) _ _
    (content_kept model P m late c ats p)
    (content_kept model P m late (model.content_after c at late) ats (m.content_after c at late p))

flash_byte : (o : Option ℕ) → ((b : ℕ) → o ≡ Some b → IsByte b) → IsByte (unwrap_or o 255)
flash_byte None h = omega arith
flash_byte (Some b) h = h b refl

-- What an effect makes of the core

changed_fits : (e : Effect) (image : FinMap nat_cmp ℕ) (words : ℕ) (loaded : List ℕ) (s : Core) → EffectFits e → IsFlash image
    → AllByRecursion IsByte loaded → IsCore s →
    IsCore (changed_core e image words loaded s)
changed_fits (CopyByte d source) image words loaded s fits f l h = kept_register d _ s (operand_byte source s fits.1 h) h
changed_fits (CopyPair d r) image words loaded s fits f l h = kept_pair d _ s (pair_word s r h) h
changed_fits (Binary op d source compare) image words loaded s fits f l h =
    let r : Fits 256 (binary_result op (register s d) (operand_value source s) s.sreg) = binary_fits op _ _ s.sreg (register_byte s d h)
    (operand_byte source s fits.1 h) in
    kept_flags 256 _ _ r (choose IsCore compare _ _ h (kept_register d _ s r.value h))
changed_fits (Unary op d) image words loaded s fits f l h =
    let r : Fits 256 (unary_result op (register s d) s.sreg) = unary_fits op _ s.sreg (register_byte s d h) in
    kept_flags 256 _ _ r (kept_register d _ s r.value h)
changed_fits (AddToPair d k subtract) image words loaded s fits f l h =
    let r : Fits 65536 (add_to_pair_result subtract (pair s d) k) = pair_fits subtract _ k in
    kept_flags 65536 _ _ r (kept_pair d _ s r.value h)
changed_fits (Multiply d r d_signed r_signed shifted) image words loaded s fits f l h =
    let p : Fits 65536 (product_of (register s d) (register s r) d_signed r_signed shifted) = product_fits _ _ d_signed r_signed shifted in
    kept_flags 65536 _ _ p (kept_pair 0 _ s p.value h)
changed_fits (Load d from) image words loaded s fits f l h =
    kept_register d _ _ (byte_at loaded 0 l) (kept_pointer from _ s (address_below from s fits.1 h) h)
changed_fits (Store to r) image words loaded s fits f l h =
    kept_pointer to _ _ (address_below to s fits.0 h) (kept_stores (stores_of (Store to r) words s) s
    (stores_fit (Store to r) words s fits h) h)
changed_fits (PushByte r) image words loaded s fits f l h =
    kept_sp _ (fold with_store s (stores_of (PushByte r) words s)) (omega arith) (kept_stores (stores_of (PushByte r) words s) s
    (stores_fit (PushByte r) words s fits h) h)
changed_fits (PopByte d) image words loaded s fits f l h = kept_register d _ _ (byte_at loaded 0 l) (kept_sp _ s (omega arith) h)
changed_fits (LoadProgram d increment) image words loaded s fits f l h =
    kept_register d _ _ (flash_byte (get image (pair s 30)) (λ b e. (f (pair s 30) b e).1))
    (choose IsCore increment _ _ (kept_pair 30 _ s (omega arith) h) h)
changed_fits (WriteFlag flag set) image words loaded s fits f l h = kept_sreg _ s (with_bit_below flag set s.sreg fits h.sreg) h
changed_fits (LoadBit d b) image words loaded s fits f l h = kept_register d _ s (with_bit_below b _ _ fits.1 (register_byte s d h)) h
changed_fits (StoreBit d b) image words loaded s fits f l h = kept_sreg _ s (with_bit_below 6 _ s.sreg (omega arith) h.sreg) h
changed_fits (Jump target true) image words loaded s fits f l h =
    kept_sp _ (fold with_store s (pc_stores (following_pc words s) s)) (omega arith) (kept_stores (pc_stores (following_pc words s) s) s
    (pc_stores_fit (following_pc words s) s (omega arith) h) h)
changed_fits (Return from_interrupt) image words loaded s fits f l h = record {
  count = h.count;
  registers = h.registers;
  sreg = choose IsByte from_interrupt _ _ (with_bit_below 7 true s.sreg (omega arith) h.sreg) h.sreg;
  sp = omega arith;
  pc = h.pc;
}
changed_fits e image words loaded s fits f l h = h

target_below : (target : JumpTarget) (words : ℕ) (s : Core) → JumpTargetFits target → jump_address target words s < 32768
target_below (Absolute k) words s fits = fits
target_below (Relative k) words s fits = omega arith
target_below Indirect words s fits = omega arith

next_pc_below : (e : Effect) (o : Outcome) (words : ℕ) (loaded : List ℕ) (s : Core) → EffectFits e → next_pc e o words loaded s < 32768
next_pc_below (Branch flag set offset) Taken words loaded s fits = omega arith
next_pc_below (SkipIf test) o words loaded s fits = omega arith
next_pc_below (Jump target call) o words loaded s fits = target_below target words s fits
next_pc_below (Return from_interrupt) o words loaded s fits = omega arith
next_pc_below e o words loaded s fits = omega arith

-- The whole

-- an instruction keeps the core's parts in range, and what loads keep of the content; what it stores is in range
pub record ResultFits {C : Type 0} (P : C → Type 0) (r : StepResult C) : Type 0 where
  pub core : IsCore r.core
  pub content : P r.content
  pub stores : AllByRecursion IsHeldStore r.stores

pub effect_result_fits : {C : Type 0} → (model : LoadModel C) (P : C → Type 0) → IsLoadModel model P → (image : FinMap nat_cmp ℕ)
    (e : Effect) (words : ℕ) (clocks : Outcome → ℕ) (s : Core) (c : C) →
    EffectFits e → IsFlash image → IsCore s → P c → ResultFits P (effect_result model image e words clocks s c)
effect_result_fits model P m image e words clocks s c fits f h p =
    let l : AllByRecursion IsByte (loaded_bytes model s (sample_clock e clocks) c (load_addresses e s)) = loaded_byte model P m s
    (sample_clock e clocks) c (load_addresses e s) h p in
    record {
      core = kept_pc _ _ (next_pc_below e _ words _ s fits) (changed_fits e image words _ s fits f l h);
      content = content_kept model P m (sample_clock e clocks) c (load_addresses e s) p;
      stores = filter_keeps leaves_core (stores_of e words s) (stores_fit e words s fits h);
    }

-- an interrupt's entry
pub interrupted_core_fits : (s : Core) → IsCore s → IsCore (interrupted_core s)
interrupted_core_fits s h =
    let t : IsCore (fold with_store s (pc_stores s.pc s)) = kept_stores (pc_stores s.pc s) s (pc_stores_fit s.pc s h.pc h) h in
    record {
      count = t.count;
      registers = t.registers;
      sreg = with_bit_below 7 false _ (omega arith) t.sreg;
      sp = omega arith;
      pc = omega arith;
    }

pub entry_stores_fit : (s : Core) → IsCore s → AllByRecursion IsHeldStore (filter leaves_core (pc_stores s.pc s))
entry_stores_fit s h = filter_keeps leaves_core (pc_stores s.pc s) (pc_stores_fit s.pc s h.pc h)
