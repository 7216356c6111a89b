-- What is known of the last comparison or result after an effect holds of the core after it.
use Rattle.uz_rules.proofs.Common.{only, ◌≡◌, ℕ, ◌+◌, ◌%◌, ◌<◌, ◌≤◌, Bool, true, false, ◌||◌, Option, Some, None, List, [], ◌∷◌, suc, fold}
use Rattle.uz_rules.proofs.Common.{if◌then◌else◌, nat_eq, nat_le, nat_lt, refl, sym, subst, arith, slice_index, ◌&&◌, FinMap, nat_cmp}
use Rattle.uz_rules.proofs.Common.{nat_tests, byte_or_255, AddressMode, PostIncrement, PreDecrement, BinaryOp, Effect, CopyByte, CopyPair}
use Rattle.uz_rules.proofs.Common.{Binary, Unary, AddToPair, Multiply, Load, Store, PushByte, PopByte, LoadProgram, WriteFlag, LoadBit}
use Rattle.uz_rules.proofs.Common.{StoreBit, Jump, Return, Operand, UnaryOp, bit_is_set, difference_of, flags_none, merged_sreg, with_bit}
use Rattle.uz_rules.proofs.Common.{Core, register, pair, operand_value, with_register, with_pair, with_flags, with_sp, binary_result}
use Rattle.uz_rules.proofs.Common.{unary_result, changed_core, effective_address, with_pointer_after, is_core_address, with_store, IsCore}
use Rattle.uz_rules.proofs.Common.{OperandFits, EffectFits, bit_of_merged, Ends, Compared, Nothing, Val, Head, EventKind, Instance}
use Rattle.uz_rules.proofs.Common.{is_single, IsWithin, told_after, knows_comparisons, compared_after, emission_at, cell_place, cell_range}
use Rattle.uz_rules.proofs.Common.{misses, address_range, cell_admits, fail_of, span_of, value_at, exact_pair, ComparedHolds, CoreMeets}
use Rattle.uz_rules.proofs.Common.{HeadFits, and_parts, unless_named, unless_pair_named}
use Rattle.uz_rules.proofs.CoreKeeps.{within_span}
use Rattle.uz_transfer.specs.Compared.{past_pointer, may_be_sreg, told_by, unary_told}
use Rattle.uz_core.specs.declared.machine.Operand.TheVariants.{Register, Constant}
use Rattle.uz_rules.proofs.Classes.{may_be_stored}
use Rattle.uz_rules.proofs.ComparedLaws.{compare_tells, chain_tells, subtract_tells, borrow_tells, value_tells, compared_stays}
use Rattle.uz_rules.proofs.ComparedLaws.{compared_same, register_left, pair_register_left}
use Rattle.uz_rules.proofs.CoreSteps.{address_holds, exact_holds}
use Rattle.uz_rules.proofs.LoadClasses.{ram_not_core}
use Rattle.uz_rules.proofs.PairResults.{pair_subtract_tells}
use Rattle.uz_rules.proofs.StoreClasses.{MayStore, SetsNothingElse, not_core, cell_taken, free_by}
use Rattle.uz_core.specs.declared.machine.BinaryOp.TheVariants as binary
use Rattle.uz_core.specs.declared.machine.HeldStore.TheVariants as held
use Rattle.uz_core.specs.declared.machine.UnaryOp.TheVariants as unary

-- Operations on bytes

binary_holds : (op : BinaryOp) (d : ℕ) (source : Operand) (compare : Bool) (inst : Instance) (o s : Core) → IsCore s → d < 32
    → OperandFits source → CoreMeets inst o s → ComparedHolds inst.compared s
    → ComparedHolds (told_by op d source compare inst) (with_flags (binary_result op (register s d) (operand_value source s) s.sreg)
    (if compare then s else with_register d (binary_result op (register s d) (operand_value source s) s.sreg).value s))
binary_holds (binary.Subtract false) d source true inst o s c hd fits meets h = compare_tells d source s hd fits
binary_holds (binary.Subtract false) d (Constant k) false inst o s c hd fits meets h =
    subtract_tells d k (span_of (value_at inst.regs d)) s c hd fits (within_span inst o s d c hd meets)
binary_holds (binary.Subtract false) d (Register r) false inst o s c hd fits meets h =
    value_tells (difference_of (register s d) (register s r) false) d s c hd refl refl
binary_holds (binary.Subtract true) d source true inst o s c hd fits meets h = chain_tells d source inst.compared s c hd fits h
binary_holds (binary.Subtract true) d (Constant k) false inst o s c hd fits meets h =
    borrow_tells d k (span_of (value_at inst.regs d)) inst.compared s c hd fits (within_span inst o s d c hd meets) h
binary_holds (binary.Subtract true) d (Register r) false inst o s c hd fits meets h = tt
binary_holds op d source true inst o s c hd fits meets h = tt
binary_holds (binary.Add true) d source false inst o s c hd fits meets h =
    value_tells (binary_result (binary.Add true) (register s d) (operand_value source s) s.sreg) d s c hd refl refl
binary_holds op d source false inst o s c hd fits meets h =
    value_tells (binary_result op (register s d) (operand_value source s) s.sreg) d s c hd refl refl

unary_holds : (op : UnaryOp) (d : ℕ) (old : Compared) (s : Core) → IsCore s → d < 32 → ComparedHolds old s
    → ComparedHolds (unary_told op d old)
    (with_flags (unary_result op (register s d) s.sreg) (with_register d (unary_result op (register s d) s.sreg).value s))
unary_holds unary.Swap d old s c hd h =
    let r = unary_result unary.Swap (register s d) s.sreg in
    compared_stays (unless_named d old) (with_register d r.value s) (with_flags r (with_register d r.value s)) (λ k few. flag_kept s.sreg k few)
    (λ q w named. refl) (register_left d r.value old s h)
  where
    flag_kept : (sreg k : ℕ) → k < 5 → bit_is_set (merged_sreg flags_none sreg) k ≡ bit_is_set sreg k
    flag_kept sreg (suc (suc (suc (suc (suc k))))) few = absurd (omega arith)
    flag_kept sreg k few = bit_of_merged flags_none sreg k
unary_holds op d old s c hd h = value_tells (unary_result op (register s d) s.sreg) d s c hd refl refl

-- Pointers

pointer_left : (mode : AddressMode) (at : ℕ) (old : Compared) (s : Core) → ComparedHolds old s
    → ComparedHolds (past_pointer mode old) (with_pointer_after mode at s)
pointer_left (PostIncrement p) at old s h = pair_register_left p ((at + 1) % 65536) old s h
pointer_left (PreDecrement p) at old s h = pair_register_left p at old s h
pointer_left mode at old s h = h

-- Stores

not_sreg : (a : Ends) (at : ℕ) → may_be_sreg a ≡ false → IsWithin at a → nat_eq at 0x5F ≡ false
not_sreg a at e within = let low = within.above in let high = within.below in by_case (nat_eq at 0x5F) refl
  where
    by_case : (t : Bool) → nat_eq at 0x5F ≡ t → t ≡ false
    by_case false same = refl
    by_case true same =
        let is : at ≡ 0x5F = grind (arith, nat_tests) in
        let one : nat_le a.lo 0x5F ≡ true = (let low : a.lo ≤ 0x5F = omega (arith, is, within.above) in grind (arith, nat_tests)) in
        let two : nat_le 0x5F a.hi ≡ true = (let high : 0x5F ≤ a.hi = omega (arith, is, within.below) in grind (arith, nat_tests)) in
        let both : may_be_sreg a ≡ true = (λ i. one i && two i) in
        absurd cc

-- a store off SREG isn't one to the core
store_outside : (head : Head) (inst : Instance) (level at : ℕ) (a : Ends) (v : Val) (emitted : Option EventKind) → HeadFits head
    → IsWithin at a → may_be_sreg a ≡ false → MayStore head inst level a v emitted → is_core_address at ≡ false
store_outside head inst level at a v emitted fits within apart may =
    by_first (is_single a && (nat_le 0x20 a.lo && nat_le a.lo 0xFF)) refl may.may
  where
    io : (is_single a && (nat_le 0x20 a.lo && nat_le a.lo 0xFF)) ≡ true → is_core_address at ≡ false
    io e =
        let one = and_parts (is_single a) _ e in
        let both = and_parts (nat_le 0x20 a.lo) (nat_le a.lo 0xFF) one.1 in
        let is : a.lo ≡ at = only a at one.0 within in
        let low : 0x20 ≤ a.lo = (let t = both.0 in grind (arith, nat_tests)) in
        not_core at (omega (arith, is, low)) (subst SetsNothingElse is (may.io one.0)) (not_sreg a at apart within)

    cell : (is_single a && cell_admits (cell_place head inst.kind a.lo) (cell_range head a.lo) (span_of v)) ≡ true → is_core_address at ≡ false
    cell e =
        let one = and_parts (is_single a) _ e in
        let is : a.lo ≡ at = only a at one.0 within in
        let taken = cell_taken head inst.kind a.lo (span_of v) one.1 in
        ram_not_core at (omega (arith, is, (fits.cells_ram a.lo taken.range taken.is).0))

    by_second : (t u : Bool) → (is_single a && cell_admits (cell_place head inst.kind a.lo) (cell_range head a.lo) (span_of v)) ≡ t
        → (u ≡ true → is_core_address at ≡ false) → (t || u) ≡ true → is_core_address at ≡ false
    by_second true u is free e = cell is
    by_second false u is free e = free e

    by_first : (t : Bool) → (is_single a && (nat_le 0x20 a.lo && nat_le a.lo 0xFF)) ≡ t
        → (t || ((is_single a && cell_admits (cell_place head inst.kind a.lo) (cell_range head a.lo) (span_of v)) ||
        ((nat_le 0x100 a.lo && nat_le a.hi 0x10FF) && ((nat_lt a.hi head.lo || nat_lt head.hi a.lo) && misses head.cells.items a)))) ≡ true
        → is_core_address at ≡ false
    by_first true is e = io is
    by_first false is e =
        by_second (is_single a && cell_admits (cell_place head inst.kind a.lo) (cell_range head a.lo) (span_of v)) _ refl
        (λ f. let ram = free_by head a f in ram_not_core at (omega (arith, ram.low, within.above))) e

store_holds : (to : AddressMode) (r level : ℕ) (head : Head) (inst : Instance) (o s : Core) (emitted : Option EventKind) → HeadFits head
    → IsCore s → EffectFits (Store to r) → CoreMeets inst o s → fail_of head (Store to r) inst ≡ None
    → emission_at level (Store to r) inst ≡ Some emitted → ComparedHolds inst.compared s
    → ComparedHolds (told_after (Store to r) inst)
    (with_pointer_after to (effective_address to s) (fold with_store s (held.Byte (effective_address to s) (register s r) ∷ [])))
store_holds to r level head inst o s emitted heads c fits meets fine emits h = by_case (may_be_sreg (address_range to inst)) refl
  where
    at : ℕ
    at = effective_address to s

    by_case : (t : Bool) → may_be_sreg (address_range to inst) ≡ t → ComparedHolds (if t then Nothing else past_pointer to inst.compared)
        (with_pointer_after to at (fold with_store s (held.Byte at (register s r) ∷ [])))
    by_case true e = tt
    by_case false e =
        let outside : is_core_address at ≡ false = store_outside head inst level at (address_range to inst) (value_at inst.regs r) emitted
        heads (address_holds to inst o s c fits.0 meets) e (may_be_stored head inst level to r emitted fine emits) in
        let same : fold with_store s (held.Byte at (register s r) ∷ []) ≡ s = rw outside refl in
        subst (λ t. ComparedHolds (past_pointer to inst.compared) (with_pointer_after to at t)) (sym same)
        (pointer_left to at inst.compared s h)

-- All effects

module _ (level : ℕ) (head : Head) (image : FinMap nat_cmp ℕ) (words : ℕ) (loaded : List ℕ) (inst : Instance) (o s : Core)
    (emitted : Option EventKind) (heads : HeadFits head) (c : IsCore s) (meets : CoreMeets inst o s)
    (h : ComparedHolds inst.compared s) where
  told_holds : (e : Effect) → EffectFits e → fail_of head e inst ≡ None → emission_at level e inst ≡ Some emitted
      → ComparedHolds (told_after e inst) (changed_core e image words loaded s)
  told_holds (CopyByte d source) fits fine emits = register_left d (operand_value source s) inst.compared s h
  told_holds (CopyPair d r) fits fine emits = pair_register_left d (pair s r) inst.compared s h
  told_holds (Binary op d source compare) fits fine emits = binary_holds op d source compare inst o s c fits.0 fits.1 meets h
  told_holds (Unary op d) fits fine emits = unary_holds op d inst.compared s c fits h
  told_holds (AddToPair d k true) fits fine emits =
      pair_subtract_tells d k (exact_pair inst d) s c fits.0.1.0 fits.1 (exact_holds inst o s d c meets fits.0.1.0)
  told_holds (AddToPair d k false) fits fine emits = tt
  told_holds (Multiply d r d_signed r_signed shifted) fits fine emits = tt
  told_holds (Load d from) fits fine emits =
      register_left d (slice_index loaded 0) (past_pointer from inst.compared) (with_pointer_after from (effective_address from s) s)
      (pointer_left from (effective_address from s) inst.compared s h)
  told_holds (Store to r) fits fine emits = store_holds to r level head inst o s emitted heads c fits meets fine emits h
  told_holds (PushByte r) fits fine emits = tt
  told_holds (PopByte d) fits fine emits =
      register_left d (slice_index loaded 0) inst.compared (with_sp ((s.sp + 1) % 65536) s)
      (compared_same inst.compared s (with_sp ((s.sp + 1) % 65536) s) refl refl h)
  told_holds (LoadProgram d true) fits fine emits =
      register_left d (byte_or_255 image (pair s 30)) (unless_pair_named 30 inst.compared) (with_pair 30 ((pair s 30 + 1) % 65536) s)
      (pair_register_left 30 ((pair s 30 + 1) % 65536) inst.compared s h)
  told_holds (LoadProgram d false) fits fine emits = register_left d (byte_or_255 image (pair s 30)) inst.compared s h
  told_holds (WriteFlag flag set) fits fine emits = tt
  told_holds (LoadBit d b) fits fine emits = register_left d (with_bit b (bit_is_set s.sreg 6) (register s d)) inst.compared s h
  told_holds (StoreBit d b) fits fine emits = tt
  told_holds (Jump target true) fits fine emits = tt
  told_holds (Return from_interrupt) fits fine emits = tt
  told_holds e fits fine emits = h

  pub compared_holds : (e : Effect) → EffectFits e → fail_of head e inst ≡ None → emission_at level e inst ≡ Some emitted
      → ComparedHolds (compared_after head e inst) (changed_core e image words loaded s)
  compared_holds e fits fine emits = by_case (knows_comparisons head inst.kind)
    where
      by_case : (t : Bool) → ComparedHolds (if t then told_after e inst else Nothing) (changed_core e image words loaded s)
      by_case true = told_holds e fits fine emits
      by_case false = tt
