-- What stands in a result while the values of a cover are asked, and what a cover tells of a state.
use Rattle.uz_rules.proofs.Common.{◌∙◌, set-set, set-get_or, and_parts, ◌-◌, ◌<◌, ◌≤◌, ◌≡◌, ℕ, zero, suc, ◌+◌, Bool, true, false, List}
use Rattle.uz_rules.proofs.Common.{Option, Some, None, refl, ap, subst, arith, ◌&&◌, ◌||◌, nat_lt, slice_index_or, slice_set, nat_tests}
use Rattle.uz_rules.proofs.Common.{Core, register, with_register, IsCore, PadHistory, State, Ends, Cert, Val, Head, Instance, ends}
use Rattle.uz_rules.proofs.Common.{IsWithin, left_of, known_byte, span_of, value_at, CoreMeets, Meets, lies_in_any}
use Rattle.uz_rules.proofs.CoreKeeps.{within_span, register_byte, val_meets}
use Rattle.uz_rules.specs.Cover.{all_from, at_value, covered_by, lies_at_few, most_values}
use Rattle.uz_rules.specs.CoverMeets.{CoverMeets, MeetsOne}
use Rattle.uz_rules.proofs.AskedLaws.{left_meets}

-- Numbers one by one

pub all_none : (test : ℕ → Bool) (k last : ℕ) → last < k → all_from test k (suc last - k) ≡ true
unfolding all_from
all_none test k last h = let e : suc last - k ≡ 0 = omega arith in rw e refl

pub all_failed : (test : ℕ → Bool) (k last : ℕ) → k ≤ last → test k ≡ false → all_from test k (suc last - k) ≡ false
unfolding all_from
all_failed test k last h t = let e : suc last - k ≡ suc (last - k) = omega arith in rw (e, t) refl

pub all_more : (test : ℕ → Bool) (k last : ℕ) → k ≤ last → test k ≡ true → all_from test (k + 1) (suc last - (k + 1)) ≡ all_from test k
    (suc last - k)
unfolding all_from
all_more test k last h t =
    let e : suc last - k ≡ suc (last - k) = omega arith in
    let s : k + 1 ≡ suc k = omega arith in
    let n : suc last - suc k ≡ last - k = omega arith in
    rw (s, n, e, t) refl

-- what holds of all holds of the one that is j on
all_tells : (test : ℕ → Bool) (k n j : ℕ) → j < n → all_from test k n ≡ true → test (k + j) ≡ true
unfolding all_from
all_tells test k zero j h e = absurd (omega arith)
all_tells test k (suc n) zero h e =
    let s : k ≡ k + 0 = omega arith in
    subst (λ i. test i ≡ true) s (and_parts (test k) (all_from test (suc k) n) e).0
all_tells test k (suc n) (suc j) h e =
    let s : suc k + j ≡ k + suc j = omega arith in
    subst (λ i. test i ≡ true) s (all_tells test (suc k) n j (omega arith) (and_parts (test k) (all_from test (suc k) n) e).1)

-- A value that is put, and what stood there again

pub stands_again : (inst : Instance) (d : ℕ) (v e : Val)
    → record inst { regs = slice_set (slice_set inst.regs d v) d (slice_index_or inst.regs d e) } ≡ inst
stands_again inst d v e = ap (λ (regs : List Val). record inst { regs = regs })
    (set-set inst.regs d v (slice_index_or inst.regs d e) ∙ set-get_or inst.regs d e)

-- A state that meets a result meets it at its own value of a register

same_core : (s : Core) (r : ℕ) → with_register r (register s r) s ≡ s
same_core s r = ap (λ (regs : List ℕ). record s { registers = regs }) (set-get_or s.registers r 0)

own_value_meets : (inst : Instance) (o s : Core) (r : ℕ) → IsCore s → r < 32 → CoreMeets inst o s
    → CoreMeets (at_value r (register s r) inst) o s
own_value_meets inst o s r c h meets =
    let v : ℕ = register s r in
    let one : IsWithin v (ends v v) = record { above = omega arith; below = omega arith } in
    subst (λ t. CoreMeets (at_value r v inst) o t) (same_core s r)
    (val_meets inst o s r v (known_byte v) c h (register_byte s r c) one meets)

few_meet : (head : Head) (cert : Cert) (next : List ℕ) (r : ℕ) (result : Instance) (o : Core) (d : ℕ) (s : State PadHistory) → r < 32
    → IsCore s.core → lies_at_few cert next r (span_of (value_at result.regs r)) result ≡ true → Meets head result o d s
    → MeetsOne head cert next result o d s
few_meet head cert next r result o d s h c e meets =
    let v : ℕ = register s.core r in
    let within : IsWithin v (span_of (value_at result.regs r)) = within_span result o s.core r c h meets.core in
    let own : Instance = at_value r v result in
    record {
      left = left_of own;
      lies = at_own (span_of (value_at result.regs r)) v within e;
      meets = left_meets head (Some (left_of own)) result o d s (own_value_meets result o s.core r c h meets.core) meets;
    }
  where
    at_own : (e : Ends) (v : ℕ) → IsWithin v e → lies_at_few cert next r e result ≡ true
        → lies_in_any cert next (at_value r v result) ≡ true
    at_own e v w all =
        let place : e.lo + (v - e.lo) ≡ v = omega (arith, w.above, w.below) in
        let near : v - e.lo < suc e.hi - e.lo = omega (arith, w.above, w.below) in
        subst (λ n. lies_in_any cert next (at_value r n result) ≡ true) place
        (all_tells (λ n. lies_in_any cert next (at_value r n result)) e.lo (suc e.hi - e.lo) (v - e.lo) near
        (and_parts (nat_lt (e.hi - e.lo) most_values) _ all).1)

pub cover_meets : CoverMeets
cover_meets head cert next split result o d s c e meets = by_lies (lies_in_any cert next result) refl e
  where
    by_register : (r : ℕ) (t : Bool) → nat_lt r 32 ≡ t → (t && lies_at_few cert next r (span_of (value_at result.regs r)) result) ≡ true
        → MeetsOne head cert next result o d s
    by_register r true h e = few_meet head cert next r result o d s (grind (arith, nat_tests)) c e meets
    by_register r false h e = absurd cc

    by_split : (split : Option ℕ) → covered_by cert next split result ≡ true → MeetsOne head cert next result o d s
    by_split None e = absurd cc
    by_split (Some r) e = by_register r (nat_lt r 32) refl e

    by_lies : (t : Bool) → lies_in_any cert next result ≡ t → (t || covered_by cert next split result) ≡ true
        → MeetsOne head cert next result o d s
    by_lies true h e = record { left = left_of result; lies = h; meets = meets }
    by_lies false h e = by_split split e
