-- What an instruction makes of what is known stays within limits.
use Rattle.uz_search.proofs.Common.{◌≡◌, ℕ, zero, suc, ◌<◌, ◌≤◌, ◌+◌, ◌-◌, ◌*◌, ◌/◌, ◌%◌, List, [], ◌∷◌, ◌++◌, Option, Some, None, Bool}
use Rattle.uz_search.proofs.Common.{true, false, not, ◌&&◌, nat_eq, nat_le, nat_lt, refl, sym, subst, length, length-append, slice_set}
use Rattle.uz_search.proofs.Common.{take, if◌then◌else◌, true≢false, arith, nat_tests, AddressMode, Direct, PostIncrement, PreDecrement}
use Rattle.uz_search.proofs.Common.{Effect, AddToPair, Binary, CopyByte, CopyPair, Jump, Load, LoadBit, LoadProgram, Multiply, NoOperation}
use Rattle.uz_search.proofs.Common.{PopByte, PushByte, Store, StoreBit, Unary, WriteFlag, Operand, Constant, Ends, tracked, depth_of}
use Rattle.uz_search.proofs.Common.{BitFits, HeadFits, spans_fit, Bit, Zero, One, Free, OldBit, Val, Range, Old, OldFlags, Head, Kind, Main}
use Rattle.uz_search.proofs.Common.{Handler, Alone, Instance, is_known, is_single, bst_answer, known_operand, operation_answer}
use Rattle.uz_search.proofs.Common.{is_same_register, unary_answer, add_to_pair_answer, factors_answer, cell_place, cell_range, is_handler}
use Rattle.uz_search.proofs.Common.{is_main, with_slots, is_old, address_range, with_pointer_range, with_cell, with_stored, stored_in}
use Rattle.uz_search.proofs.Common.{fail_of, flag_fails, mask_fails, may_store, bit_of_bool, transfer, exact_pair, known_byte, merged_flags}
use Rattle.uz_search.proofs.Common.{pair_range, span_of, value_at, with_flag_list, with_pair_value, Flash, Each, OldFits, not-false}
use Rattle.uz_core.specs.declared.machine.AddressMode.TheVariants.{Displacement}
use Rattle.uz_core.specs.declared.machine.Effect.TheVariants.{Return}
use Rattle.uz_core.specs.declared.machine.Operand.TheVariants.{Register}
use Rattle.uz_range.specs.Rules.{pair_add_answer, pair_sub_answer}
use Rattle.uz_transfer.specs.Arithmetic.{operation_value, is_self_copy, binary_keeps, unary_keeps, pair_keeps, product_keeps}
use Rattle.uz_transfer.specs.Kinds.{depth_limit}
use Rattle.uz_transfer.specs.Memory.{all_flags, sreg_value, flags_from, flags_number, cell_value, value_at_address, loaded_value}
use Rattle.uz_transfer.specs.Memory.{flash_value, slot_value, depth_of as slots_of}
use Rattle.uz_transfer.specs.Transfer.{pc_values}
use Rattle.uz_transfer.specs.Values.{any_byte}
use Rattle.uz_core.specs.Arithmetic.{bit_value}
use Rattle.uz_search.proofs.TimerLaws.{refused}
use Rattle.uz_search.proofs.Lists.{choose}
use Rattle.uz_search.proofs.Known.{Known, each_append, slot_fits, value_fits, whole_bytes, with_byte, with_copied, with_flags, with_merged}
use Rattle.uz_search.proofs.Known.{with_new, with_one_flag, with_result, with_stack, without}
use Rattle.uz_search.proofs.KnownCells.{store_keeps}
use Rattle.uz_search.proofs.NewFlags.{bst_new, factors_new, operation_new, pair_new, unary_new}
use Rattle.uz_transfer.specs.declared.fail.Fail.TheVariants as why

same_depth : (head : Head) (kind : Kind) → depth_limit head kind ≡ depth_of head kind
same_depth head Main = refl
same_depth head Handler = refl
same_depth head Alone = refl

module _ (head : Head) (x : Instance) (h : Known head x.kind x) where
  operand_fits : (source : Operand) → OldFits x.kind (known_operand source x)
  operand_fits (Register r) = value_fits head x.kind x r h
  operand_fits (Constant k) = tt

  operation_fits : (b : Bool) (d : ℕ) (e : Ends) → OldFits x.kind (if b then value_at x.regs d else Range e)
  operation_fits true d e = value_fits head x.kind x d h
  operation_fits false d e = tt

  pointer_known : (mode : AddressMode) (y : Instance) → Known head x.kind y → Known head x.kind (with_pointer_range mode x y)
  pointer_known (Direct k) y k' = k'
  pointer_known (Displacement p q) y k = k
  pointer_known (PostIncrement p) y k = with_result head x.kind p (pair_add_answer (exact_pair x p) 1).span y k
  pointer_known (PreDecrement p) y k = with_result head x.kind p (pair_sub_answer (exact_pair x p) 1).span y k

  -- Loads

  old_handler : (flags : List Bit) → length flags ≡ 7 → Each (BitFits x.kind) flags → all_flags is_old flags ≡ true → x.kind ≡ Handler
  old_handler [] len each old = cc
  old_handler (Zero ∷ bs) len each old = absurd (true≢false (sym old))
  old_handler (One ∷ bs) len each old = absurd (true≢false (sym old))
  old_handler (Free ∷ bs) len each old = absurd (true≢false (sym old))
  old_handler (OldBit ∷ bs) len each old = each 0 OldBit refl

  sreg_fits : OldFits x.kind (sreg_value x)
  sreg_fits = by (all_flags is_old x.flags) refl
    where
      by : (b : Bool) → all_flags is_old x.flags ≡ b → OldFits x.kind (if b then OldFlags else if all_flags is_known x.flags then known_byte
          (flags_number x.flags + 128 * bit_value (is_main x.kind)) else any_byte)
      by true is = old_handler x.flags h.flag_count h.flags is
      by false is = choose (OldFits x.kind) (all_flags is_known x.flags) _ any_byte tt tt

  cell_fits : (spans : List Ends) (place : Option ℕ) (range : Option Ends) → OldFits x.kind (cell_value spans place range)
  cell_fits spans (Some j) range = tt
  cell_fits spans None (Some e) = tt
  cell_fits spans None None = tt

  loaded_fits : (sampled : ℕ) (a : Ends) → OldFits x.kind (loaded_value head sampled x a)
  loaded_fits sampled a =
      choose (OldFits x.kind) (is_single a) (value_at_address head sampled x a.lo) any_byte
      (choose (OldFits x.kind) (nat_eq a.lo 0x5F) (sreg_value x) _ sreg_fits
      (choose (OldFits x.kind) (nat_eq a.lo 0x84 && is_handler x.kind) (known_byte (sampled % 256)) _ tt
      (cell_fits x.cells.items (cell_place head x.kind a.lo) (cell_range head a.lo)))) tt

  -- Stores

  flags_known : (v : Val) → OldFits x.kind v → Known head x.kind (with_flag_list (flags_from v) x)
  flags_known (Range e) fits = with_new head x.kind (λ k. bst_answer e k) x h (λ k. bit_fits (bst_answer e k) (bst_new e k))
    where
      bit_fits : (b : Bit) → is_old b ≡ false → BitFits x.kind b
      bit_fits Zero n = tt
      bit_fits One n = tt
      bit_fits Free n = tt
      bit_fits OldBit n = absurd (true≢false n)
  flags_known (Old r) fits = with_new head x.kind (λ k. Free) x h (λ k. tt)
  flags_known OldFlags fits = with_new head x.kind (λ k. OldBit) x h (λ k. fits)

  cell_known : (place : Option ℕ) (e : Ends) → ((j : ℕ) → place ≡ Some j → spans_fit (tracked head x.kind) (slice_set x.cells.items j e)
      ≡ true) → Known head x.kind (with_cell place e x)
  cell_known None e fit = h
  cell_known (Some j) e fit = record {
    register_count = h.register_count;
    registers = h.registers;
    pair_count = h.pair_count;
    hulls = h.hulls;
    flag_count = h.flag_count;
    flags = h.flags;
    slots = h.slots;
    stack = h.stack;
    cells = fit j refl;
  }

  stored_known : (a : Ends) (v : Val) → HeadFits head → OldFits x.kind v → may_store head x.kind a v ≡ true → Known head x.kind
      (stored_in head a v x)
  stored_known a v fits old may = by (is_single a) refl
    where
      by : (b : Bool) → is_single a ≡ b → Known head x.kind (if b then with_stored head a.lo v x else x)
      by true single =
          choose (λ (y : Instance). Known head x.kind y) (nat_eq a.lo 0x5F) (with_flag_list (flags_from v) x)
          (with_cell (cell_place head x.kind a.lo) (span_of v) x)
          (flags_known v old)
          (cell_known (cell_place head x.kind a.lo) (span_of v) (λ j place. store_keeps head x.kind a v x.cells.items j fits single may
          place h.cells))
      by false single = h

  -- The stack

  pushed : (vals : List Val) → length x.stack.items + length vals ≤ depth_of head x.kind → Each (OldFits x.kind) vals → Known head x.kind
      (with_slots (x.stack.items ++ vals) x)
  pushed vals few each =
      with_stack head x.kind (x.stack.items ++ vals) x h (let l = length-append x.stack.items vals in omega (arith, l, few))
      (each_append (OldFits x.kind) x.stack.items vals h.stack each)

  one_value : (v : Val) → OldFits x.kind v → Each (OldFits x.kind) (v ∷ [])
  one_value v fits zero w at = subst (OldFits x.kind) (value_is v w at) fits
    where
      value_is : (a b : Val) → Some a ≡ Some b → a ≡ b
      value_is a b e = cc
  one_value v fits (suc i) w at = cc

  pc_fits : (pc : ℕ) → Each (OldFits x.kind) (pc_values pc)
  pc_fits pc zero w at = subst (OldFits x.kind) (value_is (known_byte (pc % 256)) w at) tt
    where
      value_is : (a b : Val) → Some a ≡ Some b → a ≡ b
      value_is a b e = cc
  pc_fits pc (suc zero) w at = subst (OldFits x.kind) (value_is (known_byte (pc / 256)) w at) tt
    where
      value_is : (a b : Val) → Some a ≡ Some b → a ≡ b
      value_is a b e = cc
  pc_fits pc (suc (suc i)) w at = cc

  bit_new : (b : Bool) → is_old (bit_of_bool b) ≡ false
  bit_new true = refl
  bit_new false = refl

  -- Each class

  pub transfer_known : (image : Flash) (following sampled : ℕ) (e : Effect) → HeadFits head → fail_of head e x ≡ None → Known head x.kind
      (transfer head image following sampled e x)
  transfer_known image following sampled (CopyByte d source) fits fine = with_byte head x.kind d (known_operand source x) x h
      (operand_fits source)
  transfer_known image following sampled (CopyPair d r) fits fine =
      with_copied head x.kind d (value_at x.regs r) (value_at x.regs (r + 1)) (pair_range x r) x h (value_fits head x.kind x r h)
      (value_fits head x.kind x (r + 1) h) (whole_bytes head x.kind x r h)
  transfer_known image following sampled (Binary op d source true) fits fine =
      with_merged head x.kind (binary_keeps op) (operation_answer op d source true x).flags x h (operation_new op d source true x).are
  transfer_known image following sampled (Binary op d source false) fits fine =
      with_byte head x.kind d (operation_value op d source false x)
      (with_flag_list (merged_flags (binary_keeps op) (operation_answer op d source false x).flags x.flags) x)
      (with_merged head x.kind (binary_keeps op) (operation_answer op d source false x).flags x h (operation_new op d source false x).are)
      (operation_fits (is_same_register d source && is_self_copy op) d (operation_answer op d source false x).span)
  transfer_known image following sampled (Unary op d) fits fine =
      let r = unary_answer op (span_of (value_at x.regs d)) x in
      with_byte head x.kind d (Range r.span) (with_flag_list (merged_flags (unary_keeps op) r.flags x.flags) x)
      (with_merged head x.kind (unary_keeps op) r.flags x h (unary_new op (span_of (value_at x.regs d)) x).are) tt
  transfer_known image following sampled (AddToPair d k subtract) fits fine =
      let r = add_to_pair_answer subtract (exact_pair x d) k in
      with_result head x.kind d r.span (with_flag_list (merged_flags pair_keeps r.flags x.flags) x)
      (with_merged head x.kind pair_keeps r.flags x h (pair_new subtract (exact_pair x d) k).are)
  transfer_known image following sampled (Multiply d r d_signed r_signed shifted) fits fine =
      let p = factors_answer d_signed r_signed shifted (span_of (value_at x.regs d)) (span_of (value_at x.regs r)) in
      with_result head x.kind 0 p.span (with_flag_list (merged_flags product_keeps p.flags x.flags) x)
      (with_merged head x.kind product_keeps p.flags x h (factors_new d_signed r_signed shifted (span_of (value_at x.regs d))
      (span_of (value_at x.regs r))).are)
  transfer_known image following sampled (Load d from) fits fine =
      with_byte head x.kind d (loaded_value head sampled x (address_range from x)) (with_pointer_range from x x) (pointer_known from x h)
      (loaded_fits sampled (address_range from x))
  transfer_known image following sampled (Store to r) fits fine =
      let v = value_at x.regs r in
      let a = address_range to x in
      let flag = refused (is_single a && flag_fails x.kind a.lo v) why.Flag _ fine in
      let mask = refused (is_single a && mask_fails x.kind a.lo v) why.Mask _ flag.1 in
      let may = refused (not (may_store head x.kind a v)) why.Store _ mask.1 in
      pointer_known to (stored_in head a v x) (stored_known a v fits (value_fits head x.kind x r h)
      (not-false (may_store head x.kind a v) may.0))
  transfer_known image following sampled (PushByte r) fits fine =
      let full = (refused (nat_le (depth_limit head x.kind) (slots_of x)) why.Stack None fine).0 in
      let limit = same_depth head x.kind in
      let room : slots_of x < depth_limit head x.kind = grind (arith, nat_tests) in
      pushed (value_at x.regs r ∷ []) (omega (arith, room, limit)) (one_value (value_at x.regs r) (value_fits head x.kind x r h))
  transfer_known image following sampled (PopByte d) fits fine =
      with_byte head x.kind d (slot_value 1 x) (with_slots (take (slots_of x - 1) x.stack.items) x)
      (without head x.kind (slots_of x - 1) x h) (slot_fits head x.kind x (slots_of x - 1) h)
  transfer_known image following sampled (LoadProgram d true) fits fine =
      with_byte head x.kind d (flash_value image (pair_range x 30)) (with_pair_value 30 (pair_add_answer (exact_pair x 30) 1).span x)
      (with_result head x.kind 30 (pair_add_answer (exact_pair x 30) 1).span x h) (choose (OldFits x.kind) (is_single (pair_range x 30))
      (known_byte _) any_byte tt tt)
  transfer_known image following sampled (LoadProgram d false) fits fine =
      with_byte head x.kind d (flash_value image (pair_range x 30)) x h (choose (OldFits x.kind) (is_single (pair_range x 30))
      (known_byte _) any_byte tt tt)
  transfer_known image following sampled (WriteFlag flag set) fits fine =
      choose (λ (l : List Bit). Known head x.kind (with_flag_list l x)) (nat_lt flag 7) (slice_set x.flags flag (bit_of_bool set)) x.flags
      (with_one_flag head x.kind flag (bit_of_bool set) x h (bit_new set)) (with_flags head x.kind x.flags x h h.flag_count h.flags)
  transfer_known image following sampled (LoadBit d b) fits fine = with_byte head x.kind d (Range _) x h tt
  transfer_known image following sampled (StoreBit d b) fits fine = with_one_flag head x.kind 6 (bst_answer (span_of (value_at x.regs d)) b)
      x h (bst_new (span_of (value_at x.regs d)) b)
  transfer_known image following sampled (Jump target true) fits fine =
      let full = (refused (nat_lt (depth_limit head x.kind) (slots_of x + 2)) why.Stack _ fine).0 in
      let limit = same_depth head x.kind in
      let room : slots_of x + 2 ≤ depth_limit head x.kind = grind (arith, nat_tests) in
      pushed (pc_values following) (omega (arith, room, limit)) (pc_fits following)
  transfer_known image following sampled (Jump target false) fits fine = h
  transfer_known image following sampled (Return false) fits fine = without head x.kind (slots_of x - 2) x h
  transfer_known image following sampled (Return true) fits fine = h
  transfer_known image following sampled NoOperation fits fine = h
  transfer_known image following sampled e fits fine = h
