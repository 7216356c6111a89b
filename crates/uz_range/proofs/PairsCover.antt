-- Pairs, halves and is_single bits.
use Rattle.std.proofs.Common.{◌≡◌, ℕ, ◌+◌, ◌-◌, ◌*◌, ◌/◌, ◌%◌, ◌^◌, ◌<◌, ◌≤◌, Bool, true, false, not, ◌&&◌, if◌then◌else◌, [], ◌∷◌, Option}
use Rattle.std.proofs.Common.{Some, nat_eq, nat_lt, nat_le, refl, sym, ap, subst, arith}
use Rattle.std.specs.Int.{bit_at}
use Rattle.std.proofs.lemmas.Nat.{or_lt, and_le_l}
use Rattle.std.proofs.Math.Pow.{shr_mono, pow-lt}
use Rattle.std.proofs.lemmas.Bool.Decides.{nat_tests}
use Rattle.uz_core.specs.Arithmetic.{AluResult, pair_sum_of, pair_difference_of, swap_of, with_bit, bit_is_set}
use Rattle.uz_schedule.specs.Ends.{Ends, hull}
use Rattle.uz_schedule.specs.declared.facts.Bit.{Bit}
use Rattle.uz_schedule.specs.declared.facts.Bit.TheVariants.{Zero, One, Free}
use Rattle.uz_range.specs.declared.answer.WideRanged.{WideRanged}
use Rattle.uz_range.specs.Containment.{IsWithin, MayBe, Admits, CoversWide}
use Rattle.uz_range.specs.Answers.{is_single, exact_wide_answer, wide_answer, is_known}
use Rattle.uz_range.specs.Rules.{pair_add_answer, pair_sub_answer, low_answer, high_answer, swap_answer, bst_answer, bld_answer}
use Rattle.uz_range.proofs.ShapesCover.{only, zero_allows, top_by, allow_themselves, both_true, only_flag}

pub choose_wide : (t : Bool) (x y : WideRanged) (o : AluResult) → (t ≡ true → CoversWide x o) → (t ≡ false → CoversWide y o)
    → CoversWide (if t then x else y) o
choose_wide true x y o p q = p refl
choose_wide false x y o p q = q refl

pub exactly_wide_covers : (o : AluResult) → CoversWide (exact_wide_answer o) o
exactly_wide_covers o = record { value = record { above = omega arith; below = omega arith }; flags = allow_themselves o.flags }

wide_covers : (lo hi : ℕ) (c : Bit) (v : ℕ) (fc fv fs fh ft : Option Bool) → lo ≤ v → v ≤ hi → Admits c fc
    → CoversWide (wide_answer lo hi c) (record {
      value = v;
      flags = fc ∷ Some (nat_eq v 0) ∷ Some (nat_le 32768 v) ∷ fv ∷ fs ∷ fh ∷ ft ∷ [];
    })
wide_covers lo hi c v fc fv fs fh ft a b h = record {
  value = record { above = a; below = b };
  flags = (
    h,
    (
      zero_allows lo v a,
      (
        top_by (nat_lt hi 32768) (nat_le 32768 lo) (nat_le 32768 v) (λ h. grind (arith, nat_tests))
            (λ h. grind (arith, nat_tests)),
        (tt, (tt, (tt, (tt, tt)))),
      ),
    ),
  );
}

no_carry : (n m : Bool) → (m ≡ true → n ≡ true) → (not n && m) ≡ false
no_carry true m h = refl
no_carry false true h = absurd (cc (h refl))
no_carry false false h = refl

carried : (n m : Bool) → n ≡ false → m ≡ true → (not n && m) ≡ true
carried n m h k = rw (h, k) refl

pub pair_add_covers : (p : Ends) (k x : ℕ) → x < 65536 → k < 256 → IsWithin x p → CoversWide (pair_add_answer p k) (pair_sum_of x k)
pair_add_covers p k x w wk h =
    choose_wide (is_single p) _ _ _
    (λ t. rw (only p x t h) (exactly_wide_covers (pair_sum_of x k)))
    (λ t. choose_wide (nat_lt (p.hi + k) 65536) _ _ _
    (λ t'. let u : p.hi + k < 65536 = grind (arith, nat_tests) in let b : x ≤ p.hi = h.below in
    wide_covers (p.lo + k) (p.hi + k) Zero ((x + k) % 65536) _ _ _ _ _ (omega (arith, h.above, h.below)) (omega (arith, h.above, h.below))
    (ap Some (no_carry (nat_le 32768 ((x + k) % 65536)) (nat_le 32768 x) (λ e. let g : 32768 ≤ x = grind (arith, nat_tests) in
    let g' : 32768 ≤ (x + k) % 65536 = omega arith in grind (arith, nat_tests)))))
    (λ t'. choose_wide (nat_le 65536 (p.lo + k)) _ _ _
    (λ t''. let u : 65536 ≤ p.lo + k = grind (arith, nat_tests) in let b : p.lo ≤ x = h.above in
    wide_covers (p.lo + k - 65536) (p.hi + k - 65536) One ((x + k) % 65536) _ _ _ _ _ (omega (arith, h.above, h.below))
    (omega (arith, h.above, h.below))
    (ap Some (carried (nat_le 32768 ((x + k) % 65536)) (nat_le 32768 x) (let g' : (x + k) % 65536 < 32768 = omega arith in
    grind (arith, nat_tests)) (let g : 32768 ≤ x = omega arith in grind (arith, nat_tests)))))
    (λ t''. wide_covers 0 65535 Free ((x + k) % 65536) _ _ _ _ _ (omega arith) (omega arith) tt)))

pub hull_covers : (low high : Ends) (x y : ℕ) → IsWithin x low → IsWithin y high → IsWithin (y * 256 + x) (hull low high)
hull_covers low high x y hx hy = record { above = omega (arith, hx.above, hy.above); below = omega (arith, hx.below, hy.below) }

pub choose_ends : (t : Bool) (x y : Ends) (v : ℕ) → (t ≡ true → IsWithin v x) → (t ≡ false → IsWithin v y) → IsWithin v (if t then x else y)
choose_ends true x y o p q = p refl
choose_ends false x y o p q = q refl

pub low_covers : (p : Ends) (x : ℕ) → IsWithin x p → IsWithin (x % 256) (low_answer p)
low_covers p x h =
    choose_ends (nat_eq (p.lo / 256) (p.hi / 256)) _ _ _
    (λ t. let e : p.lo / 256 ≡ p.hi / 256 = grind (arith, nat_tests) in record {
      above = omega (arith, h.above, h.below);
      below = omega (arith, h.above, h.below);
    })
    (λ t. record { above = omega arith; below = omega arith })

pub high_covers : (p : Ends) (x : ℕ) → IsWithin x p → IsWithin (x / 256) (high_answer p)
high_covers p x h = record { above = omega (arith, h.above, h.below); below = omega (arith, h.above, h.below) }

pub swap_covers : (a : Ends) (x : ℕ) → x < 256 → IsWithin x a → IsWithin (swap_of x).value (swap_answer a)
swap_covers a x w h =
    choose_ends (is_single a) _ _ _
    (λ t. rw (only a x t h) (record { above = omega arith; below = omega arith }))
    (λ t. record { above = omega arith; below = omega arith })

borrowed : (n m : Bool) → (n ≡ true → m ≡ true) → (n && not m) ≡ false
borrowed true true h = refl
borrowed true false h = absurd (cc (h refl))
borrowed false m h = refl

borrows : (n m : Bool) → n ≡ true → m ≡ false → (n && not m) ≡ true
borrows n m h k = rw (h, k) refl

pub pair_sub_covers : (p : Ends) (k x : ℕ) → x < 65536 → k < 256 → IsWithin x p → CoversWide (pair_sub_answer p k) (pair_difference_of x k)
pair_sub_covers p k x w wk h =
    choose_wide (is_single p) _ _ _
    (λ t. rw (only p x t h) (exactly_wide_covers (pair_difference_of x k)))
    (λ t. choose_wide (nat_le 65536 (p.lo + 65536 - k)) _ _ _
    (λ t'. let u : 65536 ≤ p.lo + 65536 - k = grind (arith, nat_tests) in let b : p.lo ≤ x = h.above in
    wide_covers (p.lo + 65536 - k - 65536) (p.hi + 65536 - k - 65536) Zero ((x + 65536 - k) % 65536) _ _ _ _ _
    (omega (arith, h.above, h.below)) (omega (arith, h.above, h.below))
    (ap Some (borrowed (nat_le 32768 ((x + 65536 - k) % 65536)) (nat_le 32768 x) (λ e. let g : 32768 ≤ (x + 65536 - k) % 65536 =
    grind (arith, nat_tests) in let g' : 32768 ≤ x = omega arith in grind (arith, nat_tests)))))
    (λ t'. choose_wide (nat_lt (p.hi + 65536 - k) 65536) _ _ _
    (λ t''. let u : p.hi + 65536 - k < 65536 = grind (arith, nat_tests) in let b : x ≤ p.hi = h.below in
    wide_covers (p.lo + 65536 - k) (p.hi + 65536 - k) One ((x + 65536 - k) % 65536) _ _ _ _ _ (omega (arith, h.above, h.below))
    (omega (arith, h.above, h.below))
    (ap Some (borrows (nat_le 32768 ((x + 65536 - k) % 65536)) (nat_le 32768 x) (let g' : 32768 ≤ (x + 65536 - k) % 65536 =
    omega arith in grind (arith, nat_tests)) (let g : x < 32768 = omega arith in grind (arith, nat_tests)))))
    (λ t''. wide_covers 0 65535 Free ((x + 65536 - k) % 65536) _ _ _ _ _ (omega arith) (omega arith) tt)))

one_bit : (b : ℕ) → Admits (if nat_eq b 1 then One else Zero) (Some (nat_eq b 1))
one_bit b = by_test (nat_eq b 1)
  where
    by_test : (t : Bool) → Admits (if t then One else Zero) (Some t)
    by_test true = refl
    by_test false = refl

choose_bit : (t : Bool) (x y : Bit) (o : Option Bool) → (t ≡ true → Admits x o) → (t ≡ false → Admits y o) → Admits (if t then x else y) o
choose_bit true x y o p q = p refl
choose_bit false x y o p q = q refl

pub bst_covers : (a : Ends) (b x : ℕ) → IsWithin x a → Admits (bst_answer a b) (Some (bit_is_set x b))
bst_covers a b x h =
    choose_bit (nat_eq (a.lo / 2 ^ b) (a.hi / 2 ^ b)) _ _ _
    (λ t. let e : a.lo / 2 ^ b ≡ a.hi / 2 ^ b = grind (arith, nat_tests) in
    let s : a.lo / 2 ^ b ≡ x / 2 ^ b = omega (arith, shr_mono b h.above, shr_mono b h.below) in
    subst (λ q. Admits (if nat_eq (q % 2) 1 then One else Zero) (Some (nat_eq (bit_at x b) 1))) (sym s) (one_bit (bit_at x b)))
    (λ t. tt)

with_bit-lt : (x b : ℕ) (t : Bool) → x < 256 → b < 8 → with_bit b t x < 256
with_bit-lt x b true w h = let p : 2 ^ b < 2 ^ 8 = pow-lt h in or_lt 8 x (2 ^ b) w p
with_bit-lt x b false w h = omega (arith, and_le_l x (255 - 2 ^ b))

pub bld_covers : (a : Ends) (b : ℕ) (k : Bit) (x : ℕ) (t : Bool) → b < 8 → x < 256 → IsWithin x a → MayBe k t → IsWithin (with_bit b t x)
    (bld_answer a b k)
bld_covers a b k x t wb w h hk =
    choose_ends (is_single a && is_known k) _ _ _
    (λ u. let s : (is_single a ≡ true) × (is_known k ≡ true) = both_true _ _ u in rw (only a x s.0 h, only_flag k t s.1 hk)
    (record { above = omega arith; below = omega arith }))
    (λ u. record { above = omega arith; below = omega (arith, with_bit-lt x b t w wb) })
