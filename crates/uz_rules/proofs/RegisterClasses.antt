-- The classes of effect that change registers and flags alone.
use Rattle.uz_rules.proofs.Common.{get_or-set_other, ◌≡◌, inl, inr, ℕ, ◌+◌, ◌/◌, ◌%◌, ◌<◌, Bool, true, false, not, if◌then◌else◌, nat_eq}
use Rattle.uz_rules.proofs.Common.{nat_lt, Some, None, List, [], ◌∷◌, length, refl, sym, ◌∙◌, ap, subst, arith, slice_set, ◌&&◌, nat_cmp}
use Rattle.uz_rules.proofs.Common.{AllByRecursion, length-set, FinMap, eqb_tells, nat_tests, Operand, BinaryOp, UnaryOp, CopyByte, Binary}
use Rattle.uz_rules.proofs.Common.{Unary, AddToPair, Multiply, AluResult, bit_is_set, with_bit, chained_result, and_of, or_of, product_of}
use Rattle.uz_rules.proofs.Common.{Core, register, pair, with_register, with_pair, with_sreg, with_flags, operand_value, binary_result}
use Rattle.uz_rules.proofs.Common.{unary_result, add_to_pair_result, changed_core, IsByte, IsCore, OperandFits, EffectFits, Ends, Bit, Zero}
use Rattle.uz_rules.proofs.Common.{Free, Val, Range, Head, Instance, IsWithin, MayBe, AdmitsAll, bst_answer, swap_covers, pair_add_covers}
use Rattle.uz_rules.proofs.Common.{pair_sub_covers, bst_covers, bld_covers, exact_pair, span_of, value_at, flag_at, pair_range, with_value}
use Rattle.uz_rules.proofs.Common.{with_pair_range, with_pair_value, with_flag_list, merged_flags, ValueHolds, FlagHolds, CoreMeets}
use Rattle.uz_rules.proofs.Common.{bit_of_bool, with_flag, transfer, bit_of_with_bit, and_parts, Covers, CoversWide, chained_covers}
use Rattle.uz_rules.proofs.Common.{difference_answer, bld_answer}
use Rattle.uz_rules.proofs.CoreKeeps.{within_span, set_same, or_same, in_span, register_byte, pair_word, pair_holds, val_meets, range_meets}
use Rattle.uz_rules.proofs.CoreKeeps.{core_with}
use Rattle.std.specs.Int.Bits.{and_self, or_self}
use Rattle.uz_core.specs.declared.machine.Operand.TheVariants.{Register, Constant}
use Rattle.uz_core.proofs.ByteLists.{byte_at}
use Rattle.uz_range.specs.declared.products.Form.TheVariants.{Mul, Muls, Mulsu, Fmul, Fmuls, Fmulsu}
use Rattle.uz_range.proofs.SumsCover.{sum_covers, difference_covers, negate_covers}
use Rattle.uz_range.proofs.LogicCovers.{and_covers, or_covers, xor_covers, com_covers, step_up_covers, step_down_covers, lsr_covers}
use Rattle.uz_range.proofs.LogicCovers.{asr_covers, ror_covers}
use Rattle.uz_range.proofs.ItselfCovers.{same_and_covers, same_xor_covers, same_sub_covers}
use Rattle.uz_range.proofs.ProductsCover.{product_covers}
use Rattle.uz_transfer.specs.Arithmetic.{known_operand, binary_answer, same_register_answer, is_same_register, operation_answer}
use Rattle.uz_transfer.specs.Arithmetic.{is_self_copy, operation_value, binary_keeps, unary_answer, unary_keeps, pair_keeps, factors_answer}
use Rattle.uz_transfer.specs.Arithmetic.{product_keeps}
use Rattle.uz_rules.proofs.CoreSteps.{exact_holds, core_same, may_be, told, KeepsAt, flags_meet, pair_val_meets, pair_is}
use Rattle.uz_core.specs.declared.machine.BinaryOp.TheVariants as binary
use Rattle.uz_core.specs.declared.machine.UnaryOp.TheVariants as unary

-- Operands

operand_byte : (source : Operand) (core : Core) → OperandFits source → IsCore core → operand_value source core < 256
operand_byte (Register r) core fits c = register_byte core r c
operand_byte (Constant k) core fits c = fits

operand_holds : (source : Operand) (inst : Instance) (o core : Core) → OperandFits source → CoreMeets inst o core
    → ValueHolds (known_operand source inst) o (operand_value source core)
operand_holds (Register r) inst o core fits h = h.regs r fits
operand_holds (Constant k) inst o core fits h = record { above = omega arith; below = omega arith }

-- Copies

pub copy_byte : (d : ℕ) (source : Operand) (inst : Instance) (o core : Core) → EffectFits (CopyByte d source) → IsCore core → CoreMeets inst
    o core
    → CoreMeets (with_value d (known_operand source inst) inst) o (with_register d (operand_value source core) core)
copy_byte d source inst o core fits c h = val_meets inst o core d _ _ c fits.0 (operand_byte source core fits.1 c)
    (operand_holds source inst o core fits.1 h) h

pub copy_pair : (d r : ℕ) (inst : Instance) (o core : Core) → d < 31 → r < 31 → IsCore core → CoreMeets inst o core
    → CoreMeets (with_pair_range d (pair_range inst r) (with_value (d + 1) (value_at inst.regs (r + 1))
    (with_value d (value_at inst.regs r) inst))) o (with_pair d (pair core r) core)
copy_pair d r inst o core bd br c h =
    let word = pair_word core r c in
    let rl = register_byte core r c in
    let low : register core r ≡ pair core r % 256 = omega (arith, rl) in
    let high : register core (r + 1) ≡ pair core r / 256 = omega (arith, rl) in
    let one = core_with d (pair core r % 256) core (omega arith) c in
    let first = val_meets inst o core d (pair core r % 256) (value_at inst.regs r) c (omega arith) (omega arith)
    (subst (λ n. ValueHolds (value_at inst.regs r) o n) low (h.regs r (omega arith))) h in
    let second = val_meets (with_value d (value_at inst.regs r) inst) o (with_register d (pair core r % 256) core) (d + 1)
    (pair core r / 256) (value_at inst.regs (r + 1)) one (omega arith) (omega (arith, word))
    (subst (λ n. ValueHolds (value_at inst.regs (r + 1)) o n) high (h.regs (r + 1) (omega arith))) first in
    range_meets (with_value (d + 1) (value_at inst.regs (r + 1)) (with_value d (value_at inst.regs r) inst)) o
    (with_pair d (pair core r) core) d (pair_range inst r)
    (core_with (d + 1) (pair core r / 256) (with_register d (pair core r % 256) core) (omega (arith, word)) one) bd
    (subst (λ n. IsWithin n (pair_range inst r)) (sym (pair_is core d (pair core r) c bd word)) (pair_holds inst o core r c h br)) second

-- Two bytes

binary_covers : (op : BinaryOp) (a b : Ends) (x y : ℕ) (inst : Instance) (sreg : ℕ) → x < 256 → y < 256 → IsWithin x a → IsWithin y b
    → MayBe (flag_at inst.flags 0) (bit_is_set sreg 0) → MayBe (flag_at inst.flags 1) (bit_is_set sreg 1)
    → Covers (binary_answer op a b inst) (binary_result op x y sreg)
binary_covers (binary.Add false) a b x y inst sreg wx wy hx hy c z = sum_covers a b Zero x y false wx wy hx hy refl
binary_covers (binary.Add true) a b x y inst sreg wx wy hx hy c z = sum_covers a b (flag_at inst.flags 0) x y _ wx wy hx hy c
binary_covers (binary.Subtract false) a b x y inst sreg wx wy hx hy c z = difference_covers a b Zero x y false wx wy hx hy refl
binary_covers (binary.Subtract true) a b x y inst sreg wx wy hx hy c z =
    chained_covers (flag_at inst.flags 1) (difference_answer a b (flag_at inst.flags 0)) _ _ (difference_covers a b (flag_at inst.flags 0) x
    y _ wx wy hx hy c) z
binary_covers binary.And a b x y inst sreg wx wy hx hy c z = and_covers a b x y hx hy
binary_covers binary.Or a b x y inst sreg wx wy hx hy c z = or_covers a b x y wx wy hx hy
binary_covers binary.Xor a b x y inst sreg wx wy hx hy c z = xor_covers a b x y wx wy hx hy

or_as_and : (x : ℕ) → or_of x x ≡ and_of x x
or_as_and x = rw (and_self x, or_self x) refl

itself_covers : (op : BinaryOp) (a : Ends) (x : ℕ) (inst : Instance) (sreg : ℕ) → x < 256 → IsWithin x a → MayBe (flag_at inst.flags 0)
    (bit_is_set sreg 0) → MayBe (flag_at inst.flags 1) (bit_is_set sreg 1)
    → Covers (same_register_answer op a inst) (binary_result op x x sreg)
itself_covers (binary.Subtract false) a x inst sreg w h c z = same_sub_covers x
itself_covers binary.And a x inst sreg w h c z = same_and_covers a x h
itself_covers binary.Or a x inst sreg w h c z = subst (Covers (same_register_answer binary.Or a inst)) (sym (or_as_and x))
    (same_and_covers a x h)
itself_covers binary.Xor a x inst sreg w h c z = same_xor_covers x
itself_covers op a x inst sreg w h c z = binary_covers op a a x x inst sreg w w h h c z

same_operand : (d : ℕ) (source : Operand) (core : Core) → is_same_register d source ≡ true → operand_value source core ≡ register core d
same_operand d (Register r) core e = let i : d ≡ r = grind (arith, nat_tests) in ap (register core) (sym i)
same_operand d (Constant k) core e = absurd cc

answer_covers : (op : BinaryOp) (d : ℕ) (source : Operand) (compare : Bool) (inst : Instance) (o core : Core) → d < 32 → OperandFits source
    → IsCore core → CoreMeets inst o core
    → Covers (operation_answer op d source compare inst) (binary_result op (register core d) (operand_value source core) core.sreg)
answer_covers op d source compare inst o core bd fits c h = by_case (is_same_register d source && not compare) refl
  where
    x : IsWithin (register core d) (span_of (value_at inst.regs d))
    x = within_span inst o core d c bd h

    by_case : (t : Bool) → (is_same_register d source && not compare) ≡ t
        → Covers (if t then same_register_answer op (span_of (value_at inst.regs d)) inst else binary_answer op
        (span_of (value_at inst.regs d)) (span_of (known_operand source inst)) inst)
        (binary_result op (register core d) (operand_value source core) core.sreg)
    by_case true e =
        subst (λ y. Covers (same_register_answer op (span_of (value_at inst.regs d)) inst) (binary_result op (register core d) y core.sreg))
        (sym (same_operand d source core (and_parts (is_same_register d source) (not compare) e).0))
        (itself_covers op _ (register core d) inst core.sreg (register_byte core d c) x (may_be _ _ _ (h.flags 0 (omega arith)))
        (may_be _ _ _ (h.flags 1 (omega arith))))
    by_case false e =
        binary_covers op _ _ (register core d) (operand_value source core) inst core.sreg (register_byte core d c)
        (operand_byte source core fits c) x
        (in_span _ o _ (operand_byte source core fits c) (operand_holds source inst o core fits h)) (may_be _ _ _ (h.flags 0 (omega arith)))
        (may_be _ _ _ (h.flags 1 (omega arith)))

chained_keeps : (v : ℕ) (c z n w s h : Bool) (t : Bool) → KeepsAt (binary_keeps (binary.Subtract true))
    (chained_result (record { value = v; flags = Some c ∷ Some z ∷ Some n ∷ Some w ∷ Some s ∷ Some h ∷ None ∷ [] }) t).flags
chained_keeps v c z n w s h true = refl
chained_keeps v c z n w s h false = refl

binary_keeps_at : (op : BinaryOp) (x y sreg : ℕ) → KeepsAt (binary_keeps op) (binary_result op x y sreg).flags
binary_keeps_at (binary.Subtract true) x y sreg = chained_keeps _ _ _ _ _ _ _ (bit_is_set sreg 1)
binary_keeps_at (binary.Add true) x y sreg = refl
binary_keeps_at op x y sreg = refl

copied : (op : BinaryOp) (x sreg : ℕ) → is_self_copy op ≡ true → (binary_result op x x sreg).value ≡ x
copied binary.And x sreg e = and_self x
copied binary.Or x sreg e = or_self x
copied op x sreg e = absurd cc

-- the value of the result, which is a byte
binary_value : (op : BinaryOp) (d : ℕ) (source : Operand) (compare : Bool) (inst : Instance) (o core : Core) → d < 32 → OperandFits source
    → IsCore core → CoreMeets inst o core
    → ValueHolds (operation_value op d source compare inst) o (binary_result op (register core d) (operand_value source core)
    core.sreg).value
binary_value op d source compare inst o core bd fits c h = by_case (is_same_register d source && is_self_copy op) refl
  where
    by_case : (t : Bool) → (is_same_register d source && is_self_copy op) ≡ t
        → ValueHolds (if t then value_at inst.regs d else Range (operation_answer op d source compare inst).span) o
        (binary_result op (register core d) (operand_value source core) core.sreg).value
    by_case true e =
        let both = and_parts (is_same_register d source) (is_self_copy op) e in
        subst (λ n. ValueHolds (value_at inst.regs d) o n)
        (sym (ap (λ y. (binary_result op (register core d) y core.sreg).value) (same_operand d source core both.0)
        ∙ copied op (register core d) core.sreg both.1)) (h.regs d bd)
    by_case false e = (answer_covers op d source compare inst o core bd fits c h).value

-- a byte that was written to a register
pub set_byte : (xs : List ℕ) (d x : ℕ) → d < length xs → AllByRecursion IsByte (slice_set xs d x) → x < 256
set_byte xs d x h all = subst (λ n. n < 256) (set_same xs d x h) (byte_at (slice_set xs d x) d all)

-- a result and its flags
result_meets : (d : ℕ) (v : Val) (r : AluResult) (keeps : ℕ → Bool) (flags : List Bit) (inst : Instance) (o core : Core) → d < 32
    → IsCore core → AllByRecursion IsByte (with_flags r (with_register d r.value core)).registers
    → KeepsAt keeps r.flags → AdmitsAll flags r.flags → ValueHolds v o r.value → CoreMeets inst o core
    → CoreMeets (with_value d v (with_flag_list (merged_flags keeps flags inst.flags) inst)) o (with_flags r (with_register d r.value core))
result_meets d v r keeps flags inst o core b c new k a hv h =
    let val = val_meets inst o core d r.value v c b (set_byte core.registers d r.value (omega (arith, c.count, b)) new) hv h in
    core_same (with_flag_list (merged_flags keeps flags inst.flags) (with_value d v inst))
    (with_value d v (with_flag_list (merged_flags keeps flags inst.flags) inst)) o
    (with_flags r (with_register d r.value core)) (with_flags r (with_register d r.value core)) refl refl refl refl refl
    (flags_meet (with_value d v inst) o (with_register d r.value core) keeps flags r k a val)

pub binary_meets : (op : BinaryOp) (d : ℕ) (source : Operand) (compare : Bool) (head : Head) (image : FinMap nat_cmp ℕ)
    (following sampled words : ℕ) (loaded : List ℕ) (inst : Instance) (o core : Core) → EffectFits (Binary op d source compare)
    → IsCore core
    → AllByRecursion IsByte (changed_core (Binary op d source compare) image words loaded core).registers → CoreMeets inst o core
    → CoreMeets (transfer head image following sampled (Binary op d source compare) inst) o (changed_core (Binary op d source compare) image
    words loaded core)
binary_meets op d source true head image following sampled words loaded inst o core fits c new h =
    flags_meet inst o core (binary_keeps op) (operation_answer op d source true inst).flags
    (binary_result op (register core d) (operand_value source core) core.sreg)
    (binary_keeps_at op (register core d) (operand_value source core) core.sreg) (answer_covers op d source true inst o core fits.0 fits.1 c
    h).flags h
binary_meets op d source false head image following sampled words loaded inst o core fits c new h =
    result_meets d (operation_value op d source false inst) (binary_result op (register core d) (operand_value source core) core.sreg)
    (binary_keeps op) (operation_answer op d source false inst).flags inst o core fits.0 c new
    (binary_keeps_at op (register core d) (operand_value source core) core.sreg) (answer_covers op d source false inst o core fits.0 fits.1
    c h).flags (binary_value op d source false inst o core fits.0 fits.1 c h) h

-- One byte

unary_covers : (op : UnaryOp) (a : Ends) (x : ℕ) (inst : Instance) (sreg : ℕ) → x < 256 → IsWithin x a → MayBe (flag_at inst.flags 0)
    (bit_is_set sreg 0) → Covers (unary_answer op a inst) (unary_result op x sreg)
unary_covers unary.Complement a x inst sreg w h c = com_covers a x h
unary_covers unary.Negate a x inst sreg w h c = negate_covers a x w h
unary_covers unary.Swap a x inst sreg w h c = record { value = swap_covers a x w h; flags = (tt, (tt, (tt, (tt, (tt, (tt, (tt, tt))))))) }
unary_covers unary.Increment a x inst sreg w h c = step_up_covers a x h
unary_covers unary.Decrement a x inst sreg w h c = step_down_covers a x w h
unary_covers unary.ArithmeticShiftRight a x inst sreg w h c = asr_covers a x w h
unary_covers unary.LogicalShiftRight a x inst sreg w h c = lsr_covers a x h
unary_covers unary.RotateRight a x inst sreg w h c = ror_covers a (flag_at inst.flags 0) x _ w h c

unary_keeps_at : (op : UnaryOp) (x sreg : ℕ) → KeepsAt (unary_keeps op) (unary_result op x sreg).flags
unary_keeps_at unary.Complement x sreg = refl
unary_keeps_at op x sreg = refl

pub unary_meets : (op : UnaryOp) (d : ℕ) (head : Head) (image : FinMap nat_cmp ℕ) (following sampled words : ℕ) (loaded : List ℕ)
    (inst : Instance) (o core : Core) → EffectFits (Unary op d) → IsCore core
    → AllByRecursion IsByte (changed_core (Unary op d) image words loaded core).registers → CoreMeets inst o core
    → CoreMeets (transfer head image following sampled (Unary op d) inst) o (changed_core (Unary op d) image words loaded core)
unary_meets op d head image following sampled words loaded inst o core fits c new h =
    let x = within_span inst o core d c fits h in
    let covers = unary_covers op (span_of (value_at inst.regs d)) (register core d) inst core.sreg (register_byte core d c) x
    (may_be _ _ _ (h.flags 0 (omega arith))) in
    result_meets d (Range (unary_answer op (span_of (value_at inst.regs d)) inst).span) (unary_result op (register core d) core.sreg)
    (unary_keeps op) (unary_answer op (span_of (value_at inst.regs d)) inst).flags inst o core fits c new
    (unary_keeps_at op (register core d) core.sreg) covers.flags covers.value h

-- Pairs

-- a pair that is written, and its flags
wide_meets : (d : ℕ) (e : Ends) (r : AluResult) (keeps : ℕ → Bool) (flags : List Bit) (inst : Instance) (o core : Core) → d < 31
    → IsCore core → r.value < 65536
    → KeepsAt keeps r.flags → AdmitsAll flags r.flags → IsWithin r.value e → CoreMeets inst o core
    → CoreMeets (with_pair_value d e (with_flag_list (merged_flags keeps flags inst.flags) inst)) o
    (with_flags r (with_pair d r.value core))
wide_meets d e r keeps flags inst o core b c word k a hv h =
    core_same (with_flag_list (merged_flags keeps flags inst.flags) (with_pair_value d e inst))
    (with_pair_value d e (with_flag_list (merged_flags keeps flags inst.flags) inst)) o
    (with_flags r (with_pair d r.value core)) (with_flags r (with_pair d r.value core)) refl refl refl refl refl
    (flags_meet (with_pair_value d e inst) o (with_pair d r.value core) keeps flags r k a (pair_val_meets inst o core d r.value e c b word
    hv h))

pub add_to_pair_meets : (d k : ℕ) (subtract : Bool) (head : Head) (image : FinMap nat_cmp ℕ) (following sampled words : ℕ) (loaded : List ℕ)
    (inst : Instance) (o core : Core) → EffectFits (AddToPair d k subtract) → IsCore core → CoreMeets inst o core
    → CoreMeets (transfer head image following sampled (AddToPair d k subtract) inst) o (changed_core (AddToPair d k subtract) image words
    loaded core)
add_to_pair_meets d k false head image following sampled words loaded inst o core fits c h =
    let covers = pair_add_covers (exact_pair inst d) k (pair core d) (pair_word core d c) (omega (arith, fits.1))
    (exact_holds inst o core d c h fits.0.1.0) in
    wide_meets d _ (add_to_pair_result false (pair core d) k) pair_keeps _ inst o core fits.0.1.0 c (omega arith) refl covers.flags
    covers.value h
add_to_pair_meets d k true head image following sampled words loaded inst o core fits c h =
    let covers = pair_sub_covers (exact_pair inst d) k (pair core d) (pair_word core d c) (omega (arith, fits.1))
    (exact_holds inst o core d c h fits.0.1.0) in
    wide_meets d _ (add_to_pair_result true (pair core d) k) pair_keeps _ inst o core fits.0.1.0 c (omega arith) refl covers.flags
    covers.value h

factors_cover : (d_signed r_signed shifted : Bool) (a b : Ends) (x y : ℕ) → IsWithin x a → IsWithin y b
    → (product_of x y d_signed r_signed shifted).value < 65536
    → CoversWide (factors_answer d_signed r_signed shifted a b) (product_of x y d_signed r_signed shifted)
factors_cover false false false a b x y hx hy w = product_covers a b Mul x y hx hy
factors_cover true true false a b x y hx hy w = product_covers a b Muls x y hx hy
factors_cover true false false a b x y hx hy w = product_covers a b Mulsu x y hx hy
factors_cover false false true a b x y hx hy w = product_covers a b Fmul x y hx hy
factors_cover true true true a b x y hx hy w = product_covers a b Fmuls x y hx hy
factors_cover true false true a b x y hx hy w = product_covers a b Fmulsu x y hx hy
factors_cover false true shifted a b x y hx hy w = record {
  value = record { above = omega arith; below = omega arith };
  flags = (tt, (tt, (tt, (tt, (tt, (tt, (tt, tt)))))));
}

-- a word that was written to a pair
set_word : (core : Core) (d x : ℕ) → d < 31 → length core.registers ≡ 32 → AllByRecursion IsByte (with_pair d x core).registers → x < 65536
set_word core d x b len all = let high = set_byte (slice_set core.registers d (x % 256)) (d + 1) (x / 256)
    (omega (arith, length-set core.registers d (x % 256), len, b)) all in omega arith

pub multiply_meets : (d r : ℕ) (d_signed r_signed shifted : Bool) (head : Head) (image : FinMap nat_cmp ℕ) (following sampled words : ℕ)
    (loaded : List ℕ) (inst : Instance) (o core : Core) → EffectFits (Multiply d r d_signed r_signed shifted) → IsCore core
    → AllByRecursion IsByte (changed_core (Multiply d r d_signed r_signed shifted) image words loaded core).registers → CoreMeets inst o
    core
    → CoreMeets (transfer head image following sampled (Multiply d r d_signed r_signed shifted) inst) o
    (changed_core (Multiply d r d_signed r_signed shifted) image words loaded core)
multiply_meets d r d_signed r_signed shifted head image following sampled words loaded inst o core fits c new h =
    let word = set_word core 0 (product_of (register core d) (register core r) d_signed r_signed shifted).value (omega arith) c.count new in
    let x = within_span inst o core d c fits.0 h in
    let y = within_span inst o core r c fits.1 h in
    let covers = factors_cover d_signed r_signed shifted (span_of (value_at inst.regs d)) (span_of (value_at inst.regs r)) (register core d)
    (register core r) x y word in
    wide_meets 0 _ (product_of (register core d) (register core r) d_signed r_signed shifted) product_keeps _ inst o core (omega arith) c
    word refl covers.flags covers.value h

-- Single bits

flag_meets : (k : ℕ) (b : Bit) (t : Bool) (inst : Instance) (o core : Core) → k < 7 → FlagHolds b (bit_is_set o.sreg k) t → CoreMeets inst o
    core
    → CoreMeets (with_flag k b inst) o (with_sreg (with_bit k t core.sreg) core)
flag_meets k b t inst o core w hb h = record {
  regs = h.regs;
  pairs = h.pairs;
  flags = λ j v.
      elim (eqb_tells j k) [
        | inl e ↦
            let is : bit_is_set (with_bit k t core.sreg) j ≡ t = bit_of_with_bit k j core.sreg t (omega (arith, w)) (omega (arith, v))
            ∙ rw e.0 refl in
            rw is (subst (λ q. FlagHolds (flag_at (slice_set inst.flags k b) q) (bit_is_set o.sreg q) t) (sym e.1)
            (or_same (λ f. FlagHolds f (bit_is_set o.sreg k) t) inst.flags k b Free hb tt))
        | inr e ↦
            let is : bit_is_set (with_bit k t core.sreg) j ≡ bit_is_set core.sreg j = bit_of_with_bit k j core.sreg t (omega (arith, w))
            (omega (arith, v)) ∙ rw e.0 refl in
            rw (is, get_or-set_other inst.flags k j b Free e.1) (h.flags j v)
      ];
}

pub bool_holds : (t before : Bool) → FlagHolds (bit_of_bool t) before t
bool_holds true before = refl
bool_holds false before = refl

pub write_flag_meets : (flag : ℕ) (set : Bool) (inst : Instance) (o core : Core) → flag < 8 → CoreMeets inst o core
    → CoreMeets (with_flag_list (if nat_lt flag 7 then slice_set inst.flags flag (bit_of_bool set) else inst.flags) inst) o
    (with_sreg (with_bit flag set core.sreg) core)
write_flag_meets flag set inst o core w h = by_case (nat_lt flag 7) refl
  where
    by_case : (t : Bool) → nat_lt flag 7 ≡ t
        → CoreMeets (with_flag_list (if t then slice_set inst.flags flag (bit_of_bool set) else inst.flags) inst) o
        (with_sreg (with_bit flag set core.sreg) core)
    by_case true e = flag_meets flag (bit_of_bool set) set inst o core (grind (arith, nat_tests)) (bool_holds set _) h
    by_case false e =
        let i : flag ≡ 7 = grind (arith, nat_tests) in
        record {
          regs = h.regs;
          pairs = h.pairs;
          flags = λ j v.
              let n : nat_eq j flag ≡ false = grind (arith, nat_tests) in
              let is : bit_is_set (with_bit flag set core.sreg) j ≡ bit_is_set core.sreg j = bit_of_with_bit flag j core.sreg set w
              (omega (arith, v)) ∙ rw n refl in
              rw is (h.flags j v);
        }

pub load_bit_meets : (d b : ℕ) (inst : Instance) (o core : Core) → d < 32 → b < 8 → IsCore core → CoreMeets inst o core
    → with_bit b (bit_is_set core.sreg 6) (register core d) < 256
    → CoreMeets (with_value d (Range (bld_answer (span_of (value_at inst.regs d)) b (flag_at inst.flags 6))) inst) o
    (with_register d (with_bit b (bit_is_set core.sreg 6) (register core d)) core)
load_bit_meets d b inst o core bd bb c h byte =
    let x = within_span inst o core d c bd h in
    val_meets inst o core d _ _ c bd byte (bld_covers (span_of (value_at inst.regs d)) b (flag_at inst.flags 6) (register core d)
    (bit_is_set core.sreg 6) bb (register_byte core d c) x (may_be _ _ _ (h.flags 6 (omega arith)))) h

pub store_bit_meets : (d b : ℕ) (inst : Instance) (o core : Core) → d < 32 → IsCore core → CoreMeets inst o core
    → CoreMeets (with_flag 6 (bst_answer (span_of (value_at inst.regs d)) b) inst) o
    (with_sreg (with_bit 6 (bit_is_set (register core d) b) core.sreg) core)
store_bit_meets d b inst o core bd c h =
    let x = within_span inst o core d c bd h in
    flag_meets 6 (bst_answer (span_of (value_at inst.regs d)) b) (bit_is_set (register core d) b) inst o core (omega arith)
    (told _ _ _ (bst_covers (span_of (value_at inst.regs d)) b (register core d) x)) h
