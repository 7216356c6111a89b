-- A core at an exit meets the instance that is narrowed there.
use Rattle.uz_rules.proofs.Common.{get_or-set_other, ◌≡◌, ℕ, suc, ◌+◌, ◌/◌, ◌%◌, ◌<◌, Bool, true, false, Option, Some, None, refl, sym, ap}
use Rattle.uz_rules.proofs.Common.{◌∙◌, subst, inl, inr, arith, slice_set, unwrap_or, ⊤, eqb_tells, bit_is_set, difference_of}
use Rattle.uz_rules.proofs.Common.{chained_result, Core, register, pair, IsCore, Ends, Against, Register, Constant, Nothing, Pair, Result}
use Rattle.uz_rules.proofs.Common.{PairResult, Value, Range, Instance, ends, IsWithin, high_answer, low_answer, common_keeps, high_covers}
use Rattle.uz_rules.proofs.Common.{low_covers, left_of, with_left, with_one, Left, span_of, value_at, pair_range, FlagsAre, against_value}
use Rattle.uz_rules.proofs.Common.{AgainstFits, ValueHolds, CoreMeets, LeftMeets, second_pair, NarrowingMeets, byte_span}
use Rattle.uz_rules.proofs.CoreKeeps.{within_span, or_same, whole, register_byte, pair_word, pair_holds, range_meets}
use Rattle.uz_range.specs.Flags.{flag_after, byte_flag, pair_flag, low_difference}
use Rattle.uz_transfer.specs.Narrowed.{against_span, with_both, with_first_pair, with_one_pair, with_pair, with_span}
use Rattle.uz_schedule.specs.declared.facts.Compared.TheVariants.{Byte}
use Rattle.uz_range.specs.Narrowing.{KeepsBoth, Keeps, both, common, result_narrowed}
use Rattle.uz_range.proofs.FlagsOfBytes.{difference_keeps}
use Rattle.uz_range.proofs.FlagsOfPairs.{pair_difference_keeps}
use Rattle.uz_range.proofs.ResultsKeep.{value_keeps, byte_result_keeps, pair_result_keeps}
use Rattle.uz_rules.proofs.ComparedLaws.{second_within}

span_meets : (inst : Instance) (left : Left) (o s : Core) (d : ℕ) (e : Ends) → IsCore s → IsWithin (register s d) e
    → CoreMeets (with_left left inst) o s → CoreMeets (with_left (with_span d e left) inst) o s
span_meets inst left o s d e c h meets = record {
  regs = λ r k.
      elim (eqb_tells r d) [
        | inl t ↦
            subst (λ q. ValueHolds (value_at (slice_set left.regs d (Range e)) q) o (register s q)) (sym t.1)
            (or_same (λ w. ValueHolds w o (register s d)) left.regs d (Range e) (Range (ends 0 255)) h (whole _ (register_byte s d c)))
        | inr t ↦ rw (get_or-set_other left.regs d r (Range e) (Range (ends 0 255)) t.1) (meets.regs r k)
      ];
  pairs = meets.pairs;
  flags = meets.flags;
}

both_left_meet : (d : ℕ) (source : Against) (inst : Instance) (left : Left) (o s : Core) (p : Option (Ends × Ends)) → IsCore s
    → CoreMeets (with_left left inst) o s → KeepsBoth (register s d) (against_value source s) p → LeftMeets (with_both d source left p) inst o s
both_left_meet d source inst left o s None c meets h = absurd h
both_left_meet d (Register r) inst left o s (Some p) c meets h =
    span_meets inst (with_span r p.1 left) o s d p.0 c h.0 (span_meets inst left o s r p.1 c h.1 meets)
both_left_meet d (Constant k) inst left o s (Some p) c meets h = span_meets inst left o s d p.0 c h.0 meets

pub both_meet : (d : ℕ) (source : Against) (inst : Instance) (o s : Core) (p : Option (Ends × Ends)) → IsCore s → CoreMeets inst o s
    → KeepsBoth (register s d) (against_value source s) p → LeftMeets (with_both d source (left_of inst) p) inst o s
both_meet d source inst o s p c meets h = both_left_meet d source inst (left_of inst) o s p c meets h

-- `left` is what is known already
pub one_meets : (d : ℕ) (inst : Instance) (left : Left) (o s : Core) (p : Option Ends) → IsCore s → CoreMeets (with_left left inst) o s
    → Keeps (register s d) p → LeftMeets (with_one d left p) inst o s
one_meets d inst left o s None c meets h = absurd h
one_meets d inst left o s (Some e) c meets h = span_meets inst left o s d e c h meets

against_within : (source : Against) (inst : Instance) (o s : Core) → IsCore s → AgainstFits source → CoreMeets inst o s
    → (against_value source s < 256) × IsWithin (against_value source s) (against_span source (left_of inst))
against_within (Register r) inst o s c fits meets = (register_byte s r c, within_span inst o s r c fits meets)
against_within (Constant k) inst o s c fits meets = (fits, record { above = omega arith; below = omega arith })

-- what one flag tells
abbrev IsTold : Option Bool → Type 0
IsTold None = ⊥
IsTold (Some b) = ⊤

pair_flag_some : (x y k : ℕ) → k < 5 → IsTold (pair_flag x y k)
pair_flag_some x y k h = by_chain (unwrap_or (flag_after (low_difference x y) 1) false) k h
  where
    by_chain : (z : Bool) (k : ℕ) → k < 5 → IsTold (flag_after (chained_result (difference_of (x / 256) (y / 256)
        (unwrap_or (flag_after (low_difference x y) 0) false)) z) k)
    by_chain true (suc (suc (suc (suc (suc k))))) h = absurd (omega arith)
    by_chain false (suc (suc (suc (suc (suc k))))) h = absurd (omega arith)
    by_chain z k h = tt

byte_flag_is : (x y sreg k : ℕ) (b : Bool) → k < 5 → FlagsAre (byte_flag x y) sreg → bit_is_set sreg k ≡ b → byte_flag x y k ≡ Some b
byte_flag_is x y sreg (suc (suc (suc (suc (suc k))))) b h are e = absurd (omega arith)
byte_flag_is x y sreg k b h are e = ap (λ t. Some t) (sym (are k _ h refl) ∙ e)

pair_flag_is : (x y sreg k : ℕ) (b : Bool) → k < 5 → FlagsAre (pair_flag x y) sreg → bit_is_set sreg k ≡ b → pair_flag x y k ≡ Some b
pair_flag_is x y sreg k b h are e = told_by (pair_flag x y k) (pair_flag_some x y k h) refl
  where
    told_by : (o : Option Bool) → IsTold o → pair_flag x y k ≡ o → o ≡ Some b
    told_by None t is = absurd t
    told_by (Some c) t is = ap (λ t. Some t) (sym (are k c h is) ∙ e)

bytes_keep : (p q : Option Ends) (x y : ℕ) → Keeps x p → Keeps y q → KeepsBoth x y (both p q)
bytes_keep None q x y f g = absurd f
bytes_keep (Some a) None x y f g = absurd g
bytes_keep (Some a) (Some b) x y f g = (f, g)

narrowed_byte : (inst : Instance) (o s : Core) (r : ℕ) (e : Ends) → IsCore s → r < 32 → IsWithin (register s r) e → CoreMeets inst o s
    → Keeps (register s r) (common e (byte_span (left_of inst) r))
narrowed_byte inst o s r e c hr within meets = common_keeps e _ (register s r) within (within_span inst o s r c hr meets)

one_pair_meets : (d : ℕ) (inst : Instance) (o s : Core) (p : Option Ends) → IsCore s → d < 31 → CoreMeets inst o s → Keeps (pair s d) p
    → LeftMeets (with_one_pair d (left_of inst) p) inst o s
one_pair_meets d inst o s None c hd meets h = absurd h
one_pair_meets d inst o s (Some e) c hd meets h =
    let b : register s d < 256 = register_byte s d c in
    let low : (pair s d) % 256 ≡ register s d = omega arith in
    let high : (pair s d) / 256 ≡ register s (d + 1) = omega arith in
    both_left_meet d (Register (d + 1)) inst (with_pair d e (left_of inst)) o s _ c (range_meets inst o s d e c hd h meets)
    (bytes_keep _ _ (register s d) (register s (d + 1))
    (narrowed_byte inst o s d (low_answer e) c (omega arith) (subst (λ n. IsWithin n (low_answer e)) low (low_covers e (pair s d) h)) meets)
    (narrowed_byte inst o s (d + 1) (high_answer e) c (omega arith)
    (subst (λ n. IsWithin n (high_answer e)) high (high_covers e (pair s d) h)) meets))

first_pair_meets : (d : ℕ) (inst : Instance) (o s : Core) (y : ℕ) (p : Option (Ends × Ends)) → IsCore s → d < 31 → CoreMeets inst o s
    → KeepsBoth (pair s d) y p → LeftMeets (with_first_pair d (left_of inst) p) inst o s
first_pair_meets d inst o s y None c hd meets h = absurd h
first_pair_meets d inst o s y (Some p) c hd meets h = one_pair_meets d inst o s (Some p.0) c hd meets h.0

pub narrowing_meets : NarrowingMeets
narrowing_meets Nothing k b inst o s hk c meets holds e = meets
narrowing_meets (Byte d source) k b inst o s hk c meets (hd, fits, are) e =
    let w : (against_value source s < 256) × IsWithin (against_value source s) (against_span source (left_of inst)) =
    against_within source inst o s c fits meets in
    both_meet d source inst o s _ c meets
    (difference_keeps k b _ _ (register s d) (against_value source s) (register_byte s d c) w.0
    (within_span inst o s d c hd meets) w.1 (byte_flag_is _ _ s.sreg k b hk are e))
narrowing_meets (Pair d low high) k b inst o s hk c meets (hd, fits, hh, are) e =
    let w : (against_value low s < 256) × IsWithin (against_value low s) (against_span low (left_of inst)) =
    against_within low inst o s c fits meets in
    let wh : IsWithin (register s high) (span_of (value_at inst.regs high)) = within_span inst o s high c hh meets in
    let by : register s high < 256 = register_byte s high c in
    first_pair_meets d inst o s _ _ c hd meets
    (pair_difference_keeps k b _ _ (pair s d) (second_pair low high s) (pair_word s d c) (omega (arith, w.0, by))
    (pair_holds inst o s d c meets hd) (second_within _ _ _ _ w.1 wh) (pair_flag_is _ _ s.sreg k b hk are e))
narrowing_meets (Result d k' old) k b inst o s hk c meets (hd, hk', (x, wx, hx, v, are)) e =
    one_meets d inst (left_of inst) o s _ c meets
    (subst (λ n. Keeps n (result_narrowed 128 k b old k' (span_of (value_at inst.regs d)))) (sym v)
    (byte_result_keeps k b old k' _ hk' x wx hx (subst (λ n. IsWithin n (span_of (value_at inst.regs d))) v
    (within_span inst o s d c hd meets)) (byte_flag_is x k' s.sreg k b hk are e)))
narrowing_meets (PairResult d k' old) k b inst o s hk c meets (hd, hk', (x, wx, hx, v, are)) e =
    one_pair_meets d inst o s _ c hd meets
    (subst (λ n. Keeps n (result_narrowed 32768 k b old k' (pair_range inst d))) (sym v)
    (pair_result_keeps k b old k' _ hk' x wx hx (subst (λ n. IsWithin n (pair_range inst d)) v (pair_holds inst o s d c meets hd))
    (pair_flag_is x k' s.sreg k b hk are e)))
narrowing_meets (Value d) k b inst o s hk c meets (hd, z, n) e =
    one_meets d inst (left_of inst) o s _ c meets (value_keeps 128 k b _ (register s d) (within_span inst o s d c hd meets)
    (λ is. sym z ∙ subst (λ j. bit_is_set s.sreg j ≡ b) is e) (λ is. sym n ∙ subst (λ j. bit_is_set s.sreg j ≡ b) is e))
