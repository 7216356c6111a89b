-- What sets what is known of the last comparison or result, and what keeps it.
use Rattle.uz_rules.proofs.Common.{eqb-true, eq-eqb, or_left, ◌≡◌, ℕ, ◌+◌, ◌-◌, ◌*◌, ◌/◌, ◌%◌, ◌<◌, Bool, true, false, Some, None, nat_eq}
use Rattle.uz_rules.proofs.Common.{nat_lt, if◌then◌else◌, nat_le, refl, sym, ap, ◌∙◌, subst, arith, slice_index_or, Operand, AluResult}
use Rattle.uz_rules.proofs.Common.{bit_is_set, difference_of, chained_result, merged_sreg, Core, register, pair, operand_value}
use Rattle.uz_rules.proofs.Common.{with_register, with_pair, with_flags, IsCore, OperandFits, bit_of_merged, or_kept, Ends, hull, Against}
use Rattle.uz_rules.proofs.Common.{Register, Constant, Compared, Nothing, Pair, Result, PairResult, Value, IsWithin, FlagsAre}
use Rattle.uz_rules.proofs.Common.{against_value, AgainstFits, ComparedHolds, or_right, unless_named, unless_pair_named}
use Rattle.uz_range.specs.Flags.{flag_after, byte_flag, pair_flag, difference_value}
use Rattle.uz_transfer.specs.Compared.{is_operand, names, against_operand, chained, borrowed}
use Rattle.uz_schedule.specs.declared.facts.Compared.TheVariants.{Byte}
use Rattle.uz_rules.proofs.CoreKeeps.{set_same, set_other, register_byte}
use Rattle.uz_core.specs.declared.machine.Operand.TheVariants as operand

-- What sets it

-- the flags that a result sets
merged_are : (r : AluResult) (sreg : ℕ) → FlagsAre (flag_after r) (merged_sreg r.flags sreg)
merged_are r sreg k b h e = bit_of_merged r.flags sreg k ∙ ap (λ o. or_kept o (bit_is_set sreg k)) e

-- CP, CPI
pub compare_tells : (d : ℕ) (source : Operand) (s : Core) → d < 32 → OperandFits source
    → ComparedHolds (Byte d (against_operand source)) (with_flags (difference_of (register s d) (operand_value source s) false) s)
compare_tells d (operand.Register r) s hd fits = (hd, fits, merged_are (difference_of (register s d) (register s r) false) s.sreg)
compare_tells d (operand.Constant k) s hd fits = (hd, fits, merged_are (difference_of (register s d) k false) s.sreg)

-- the bytes of a pair
parts : (x high : ℕ) → x < 256 → ((x + 256 * high) % 256 ≡ x) × ((x + 256 * high) / 256 ≡ high)
parts x high h = (omega arith, omega arith)

chained_are : (x y xh yh sreg : ℕ) → x < 256 → y < 256 → FlagsAre (byte_flag x y) sreg
    → FlagsAre (pair_flag (x + 256 * xh) (y + 256 * yh))
    (merged_sreg (chained_result (difference_of xh yh (bit_is_set sreg 0)) (bit_is_set sreg 1)).flags sreg)
chained_are x y xh yh sreg wx wy h =
    rw ((parts x xh wx).0, (parts y yh wy).0, (parts x xh wx).1, (parts y yh wy).1, h 0 _ (omega arith) refl, h 1 _ (omega arith) refl)
    (merged_are (chained_result (difference_of xh yh (nat_lt x (y + 0))) (nat_eq ((x + 512 - (y + 0)) % 256) 0)) sreg)

against_byte : (source : Against) (s : Core) → IsCore s → AgainstFits source → against_value source s < 256
against_byte (Register r) s c fits = register_byte s r c
against_byte (Constant k) s c fits = fits

against_same : (source : Against) (r : AluResult) (s : Core) → against_value source s ≡ against_value source (with_flags r s)
against_same (Register q) r s = refl
against_same (Constant k) r s = refl

-- CPC of the next register
pub chain_tells : (next : ℕ) (source : Operand) (c : Compared) (s : Core) → IsCore s → next < 32 → OperandFits source → ComparedHolds c s
    → ComparedHolds (chained next source c)
    (with_flags (chained_result (difference_of (register s next) (operand_value source s) (bit_is_set s.sreg 0)) (bit_is_set s.sreg 1)) s)
chain_tells next (operand.Register r) (Byte d low) s c hn hr (hd, fits, h) = by_case (nat_eq next (d + 1)) refl
  where
    by_case : (t : Bool) → nat_eq next (d + 1) ≡ t → ComparedHolds (if t then Pair d low r else Nothing)
        (with_flags (chained_result (difference_of (register s next) (register s r) (bit_is_set s.sreg 0)) (bit_is_set s.sreg 1)) s)
    by_case false e = tt
    by_case true e =
        let is : next ≡ d + 1 = eqb-true next (d + 1) e in (
          omega (arith, is, hn),
          fits,
          hr,
          subst (λ y. FlagsAre (pair_flag (pair s d) (y + 256 * register s r))
              (merged_sreg (chained_result (difference_of (register s next) (register s r) (bit_is_set s.sreg 0)) (bit_is_set s.sreg 1)).flags s.sreg))
              (against_same low (chained_result (difference_of (register s next) (register s r) (bit_is_set s.sreg 0)) (bit_is_set s.sreg 1)) s)
              (subst (λ n. FlagsAre (pair_flag (pair s d) (against_value low s + 256 * register s r))
              (merged_sreg (chained_result (difference_of (register s n) (register s r) (bit_is_set s.sreg 0)) (bit_is_set s.sreg 1)).flags s.sreg))
              (sym is)
              (chained_are (register s d) (against_value low s) (register s (d + 1)) (register s r) s.sreg (register_byte s d c)
              (against_byte low s c fits) h)),
        )
chain_tells next source c s core hn hr h = tt

-- SUBI
pub subtract_tells : (d k : ℕ) (old : Ends) (s : Core) → IsCore s → d < 32 → k < 256 → IsWithin (register s d) old
    → ComparedHolds (Result d k old)
    (with_flags (difference_of (register s d) k false) (with_register d (difference_of (register s d) k false).value s))
subtract_tells d k old s c hd hk hx = (
  hd,
  hk,
  (
    register s d,
    register_byte s d c,
    hx,
    set_same s.registers d (difference_of (register s d) k false).value (omega (arith, c.count, hd)),
    merged_are (difference_of (register s d) k false) s.sreg,
  ),
)

-- SBCI of the next register
pair_left : (x k xh kh : ℕ) (sreg : ℕ) → x < 256 → k < 256 → FlagsAre (byte_flag x k) sreg
    → (difference_of x k false).value + 256 * (chained_result (difference_of xh kh (bit_is_set sreg 0)) (bit_is_set sreg 1)).value
    ≡ difference_value (x + 256 * xh) (k + 256 * kh)
pair_left x k xh kh sreg wx wk h =
    rw ((parts x xh wx).0, (parts k kh wk).0, (parts x xh wx).1, (parts k kh wk).1, h 0 _ (omega arith) refl, h 1 _ (omega arith) refl) refl

pub second_within : (x y : ℕ) (a b : Ends) → IsWithin x a → IsWithin y b → IsWithin (x + 256 * y) (hull a b)
second_within x y a b hx hy = record { above = omega (arith, hx.above, hy.above); below = omega (arith, hx.below, hy.below) }

pub borrow_tells : (next k : ℕ) (now : Ends) (c : Compared) (s : Core) → IsCore s → next < 32 → k < 256 → IsWithin (register s next) now
    → ComparedHolds c s
    → ComparedHolds (borrowed next k now c)
    (with_flags (chained_result (difference_of (register s next) k (bit_is_set s.sreg 0)) (bit_is_set s.sreg 1))
    (with_register next (chained_result (difference_of (register s next) k (bit_is_set s.sreg 0)) (bit_is_set s.sreg 1)).value s))
borrow_tells next k now (Result d low old) s c hn hk within (hd, hl, (x, wx, hx, v, h)) = by_case (nat_eq next (d + 1)) refl
  where
    result : ℕ → AluResult
    result n = chained_result (difference_of (register s n) k (bit_is_set s.sreg 0)) (bit_is_set s.sreg 1)

    by_case : (t : Bool) → nat_eq next (d + 1) ≡ t → ComparedHolds (if t then PairResult d (low + 256 * k) (hull old now) else Nothing)
        (with_flags (result next) (with_register next (result next).value s))
    by_case false e = tt
    by_case true e =
        let is : next ≡ d + 1 = eqb-true next (d + 1) e in
        let first : register (with_register next (result next).value s) d ≡ (difference_of x low false).value =
        set_other s.registers next d (result next).value (λ q. omega (arith, q, is)) ∙ v in
        let second : register (with_register next (result next).value s) next ≡ (result next).value =
        set_same s.registers next (result next).value (omega (arith, c.count, hn)) in
        let both : pair (with_register next (result next).value s) d ≡ (difference_of x low false).value + 256 * (result (d + 1)).value =
        (λ i. first i + 256 * (ap (λ n. register (with_register next (result next).value s) n) (sym is) ∙ second
        ∙ ap (λ n. (result n).value) is) i) in (
          omega (arith, is, hn),
          omega (arith, hl, hk),
          (
            x + 256 * register s (d + 1),
            omega (arith, wx, register_byte s (d + 1) c),
            second_within x (register s (d + 1)) old now hx (subst (λ n. IsWithin (register s n) now) is within),
            both ∙ pair_left x low (register s (d + 1)) k s.sreg wx hl h,
            subst (λ n. FlagsAre (pair_flag (x + 256 * register s (d + 1)) (low + 256 * k)) (merged_sreg (result n).flags s.sreg)) (sym is)
                (chained_are x low (register s (d + 1)) k s.sreg wx hl h),
          ),
        )
borrow_tells next k now c s core hn hk within h = tt

-- a result whose flags Z and N are its own
pub value_tells : (r : AluResult) (d : ℕ) (s : Core) → IsCore s → d < 32 → slice_index_or r.flags 1 None ≡ Some (nat_eq r.value 0)
    → slice_index_or r.flags 2 None ≡ Some (nat_le 128 r.value) → ComparedHolds (Value d) (with_flags r (with_register d r.value s))
value_tells r d s c hd z n =
    let is : register (with_register d r.value s) d ≡ r.value = set_same s.registers d r.value (omega (arith, c.count, hd)) in (
      hd,
      bit_of_merged r.flags s.sreg 1 ∙ ap (λ o. or_kept o (bit_is_set s.sreg 1)) z ∙ ap (λ v. nat_eq v 0) (sym is),
      bit_of_merged r.flags s.sreg 2 ∙ ap (λ o. or_kept o (bit_is_set s.sreg 2)) n ∙ ap (λ v. nat_le 128 v) (sym is),
    )

-- What keeps it

against_stays : (source : Against) (s t : Core) → AgainstFits source
    → ((q : ℕ) → q < 32 → is_operand source q ≡ true → register t q ≡ register s q) → against_value source t ≡ against_value source s
against_stays (Register r) s t fits h = h r fits (eq-eqb r r refl)
against_stays (Constant k) s t fits h = refl

-- two status registers have the same C, Z, N, V and S
abbrev pub SameFlags : ℕ → ℕ → Type 0
SameFlags a b = (k : ℕ) → k < 5 → bit_is_set a k ≡ bit_is_set b k

flags_same : (x x' y y' sreg sreg' : ℕ) → x' ≡ x → y' ≡ y → SameFlags sreg' sreg → FlagsAre (byte_flag x y) sreg
    → FlagsAre (byte_flag x' y') sreg'
flags_same x x' y y' sreg sreg' p q same are =
    subst (λ n. FlagsAre (byte_flag n y') sreg') (sym p) (subst (λ n. FlagsAre (byte_flag x n) sreg') (sym q)
    (λ k b few e. same k few ∙ are k b few e))

pair_flags_same : (x x' y y' sreg sreg' : ℕ) → x' ≡ x → y' ≡ y → SameFlags sreg' sreg → FlagsAre (pair_flag x y) sreg
    → FlagsAre (pair_flag x' y') sreg'
pair_flags_same x x' y y' sreg sreg' p q same are =
    subst (λ n. FlagsAre (pair_flag n y') sreg') (sym p) (subst (λ n. FlagsAre (pair_flag x n) sreg') (sym q)
    (λ k b few e. same k few ∙ are k b few e))

pair_same : (a a' b b' : ℕ) → a' ≡ a → b' ≡ b → a' + 256 * b' ≡ a + 256 * b
pair_same a a' b b' p q = rw (p, q) refl

pub compared_stays : (c : Compared) (s t : Core) → SameFlags t.sreg s.sreg
    → ((q : ℕ) → q < 32 → names c q ≡ true → register t q ≡ register s q) → ComparedHolds c s → ComparedHolds c t
compared_stays Nothing s t e h holds = tt
compared_stays (Byte d source) s t e h (hd, fits, are) = (
  hd,
  fits,
  flags_same _ _ _ _ _ _ (h d hd (or_left _ _ (eq-eqb d d refl)))
      (against_stays source s t fits (λ q w p. h q w (or_right _ _ p))) e are,
)
compared_stays (Pair d low high) s t e h (hd, fits, hh, are) = (
  hd,
  fits,
  hh,
  pair_flags_same _ _ _ _ _ _ (pair_same _ _ _ _ (h d (omega (arith, hd)) (or_left _ _ (eq-eqb d d refl)))
      (h (d + 1) (omega (arith, hd)) (or_right _ _ (or_left _ _ (eq-eqb (d + 1) (d + 1) refl)))))
      (pair_same _ _ _ _ (against_stays low s t fits (λ q w p. h q w (or_right _ _ (or_right _ _ (or_left _ _ p)))))
      (h high hh (or_right (nat_eq high d) _ (or_right (nat_eq high (d + 1)) _ (or_right (is_operand low high) _
      (eq-eqb high high refl)))))) e are,
)
compared_stays (Result d k old) s t e h (hd, hk, (x, wx, hx, v, are)) =
    (hd, hk, (x, wx, hx, h d hd (eq-eqb d d refl) ∙ v, flags_same _ _ _ _ _ _ refl refl e are))
compared_stays (PairResult d k old) s t e h (hd, hk, (x, wx, hx, v, are)) = (
  hd,
  hk,
  (
    x,
    wx,
    hx,
    pair_same _ _ _ _ (h d (omega (arith, hd)) (or_left _ _ (eq-eqb d d refl)))
        (h (d + 1) (omega (arith, hd)) (or_right _ _ (eq-eqb (d + 1) (d + 1) refl))) ∙ v,
    pair_flags_same _ _ _ _ _ _ refl refl e are,
  ),
)
compared_stays (Value d) s t e h (hd, z, n) = (
  hd,
  e 1 (omega arith) ∙ z ∙ ap (λ v. nat_eq v 0) (sym (h d hd (eq-eqb d d refl))),
  e 2 (omega arith) ∙ n ∙ ap (λ v. nat_le 128 v) (sym (h d hd (eq-eqb d d refl))),
)

-- where the registers are the same, and the flags
pub compared_same : (c : Compared) (s t : Core) → s.registers ≡ t.registers → s.sreg ≡ t.sreg → ComparedHolds c s → ComparedHolds c t
compared_same c s t registers sreg =
    compared_stays c s t (λ k few. ap (λ n. bit_is_set n k) (sym sreg)) (λ q w named. ap (λ rs. register (record s { registers = rs }) q)
    (sym registers))

-- where a register is written
pub register_left : (d v : ℕ) (c : Compared) (s : Core) → ComparedHolds c s → ComparedHolds (unless_named d c) (with_register d v s)
register_left d v c s holds = by_case (names c d) refl
  where
    by_case : (t : Bool) → names c d ≡ t → ComparedHolds (if t then Nothing else c) (with_register d v s)
    by_case true e = tt
    by_case false e = compared_stays c s (with_register d v s) (λ k few. refl)
        (λ q w named. set_other s.registers d q v (λ same. let f : names c d ≡ true = subst (λ n. names c n ≡ true) same named in absurd cc))
        holds

-- and where a pair is
pub pair_register_left : (d v : ℕ) (c : Compared) (s : Core) → ComparedHolds c s → ComparedHolds (unless_pair_named d c) (with_pair d v s)
pair_register_left d v c s holds =
    register_left (d + 1) (v / 256) (unless_named d c) (with_register d (v % 256) s) (register_left d (v % 256) c s holds)
