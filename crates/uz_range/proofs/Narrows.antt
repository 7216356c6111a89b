-- Numbers of which the order is known lie in what the rules leave of their ranges.
use Rattle.std.proofs.Common.{◌≡◌, ℕ, ◌<◌, ◌≤◌, Bool, true, false, if◌then◌else◌, Option, None, Some, nat_eq}
use Rattle.std.proofs.Common.{nat_lt, nat_le, refl, arith}
use Rattle.std.proofs.lemmas.Bool.Decides.{nat_tests}
use Rattle.uz_schedule.specs.Ends.{Ends}
use Rattle.uz_range.specs.Containment.{IsWithin}
use Rattle.uz_range.specs.Answers.{is_single}
use Rattle.uz_range.specs.Narrowing.{between, common, lower, upper, both, joined, either, below, not_below, by_carry, shared, without}
use Rattle.uz_range.specs.Narrowing.{apart, by_zero, of_one_sign, of_two_signs, by_sign, KeepsBoth, Keeps}

-- one of two answers
pub keep_if : (t : Bool) (p q : Option (Ends × Ends)) (x y : ℕ) → (t ≡ true → KeepsBoth x y p) → (t ≡ false → KeepsBoth x y q)
    → KeepsBoth x y (if t then p else q)
keep_if true p q x y f g = f refl
keep_if false p q x y f g = g refl

pub keep_one : (t : Bool) (p q : Option Ends) (x : ℕ) → (t ≡ true → Keeps x p) → (t ≡ false → Keeps x q) → Keeps x (if t then p else q)
keep_one true p q x f g = f refl
keep_one false p q x f g = g refl

-- Ranges that may be empty

pub between_keeps : (lo hi v : ℕ) → lo ≤ v → v ≤ hi → Keeps v (between lo hi)
between_keeps lo hi v above below =
    keep_one (nat_le lo hi) _ _ v
    (λ t. record { above = above; below = below })
    (λ t. let u : lo ≤ hi = omega (arith, above, below) in absurd (grind (arith, nat_tests)))

pub common_keeps : (a b : Ends) (v : ℕ) → IsWithin v a → IsWithin v b → Keeps v (common a b)
common_keeps a b v ha hb = between_keeps _ _ v (omega (arith, ha.above, hb.above)) (omega (arith, ha.below, hb.below))

pub lower_keeps : (half : ℕ) (a : Ends) (v : ℕ) → IsWithin v a → v < half → Keeps v (lower half a)
lower_keeps half a v h low = between_keeps _ _ v h.above (omega (arith, h.below, low))

pub upper_keeps : (half : ℕ) (a : Ends) (v : ℕ) → IsWithin v a → half ≤ v → Keeps v (upper half a)
upper_keeps half a v h high = between_keeps _ _ v (omega (arith, h.above, high)) h.below

both_keep : (p q : Option Ends) (x y : ℕ) → Keeps x p → Keeps y q → KeepsBoth x y (both p q)
both_keep None q x y hx hy = hx
both_keep (Some a) None x y hx hy = hy
both_keep (Some a) (Some b) x y hx hy = (hx, hy)

pub joined_left : (a b : Ends) (v : ℕ) → IsWithin v a → IsWithin v (joined a b)
joined_left a b v h = record { above = omega (arith, h.above); below = omega (arith, h.below) }

pub joined_right : (a b : Ends) (v : ℕ) → IsWithin v b → IsWithin v (joined a b)
joined_right a b v h = record { above = omega (arith, h.above); below = omega (arith, h.below) }

either_first : (p q : Option (Ends × Ends)) (x y : ℕ) → KeepsBoth x y p → KeepsBoth x y (either p q)
either_first None q x y h = absurd h
either_first (Some p) None x y h = h
either_first (Some p) (Some q) x y h = (joined_left p.0 q.0 x h.0, joined_left p.1 q.1 y h.1)

either_second : (p q : Option (Ends × Ends)) (x y : ℕ) → KeepsBoth x y q → KeepsBoth x y (either p q)
either_second None q x y h = h
either_second (Some p) None x y h = absurd h
either_second (Some p) (Some q) x y h = (joined_right p.0 q.0 x h.0, joined_right p.1 q.1 y h.1)

-- C

below_keeps : (a b : Ends) (x y : ℕ) → IsWithin x a → IsWithin y b → x < y → KeepsBoth x y (below a b)
below_keeps a b x y hx hy h =
    keep_if (nat_lt a.lo b.hi) _ _ x y
    (λ t. (
      record { above = hx.above; below = omega (arith, h, hx.below, hy.below) },
      record { above = omega (arith, h, hx.above, hy.above); below = hy.below },
    ))
    (λ t. let u : a.lo < b.hi = omega (arith, h, hx.above, hy.below) in absurd (grind (arith, nat_tests)))

not_below_keeps : (a b : Ends) (x y : ℕ) → IsWithin x a → IsWithin y b → y ≤ x → KeepsBoth x y (not_below a b)
not_below_keeps a b x y hx hy h =
    keep_if (nat_le b.lo a.hi) _ _ x y
    (λ t. (
      record { above = omega (arith, h, hx.above, hy.above); below = hx.below },
      record { above = hy.above; below = omega (arith, h, hx.below, hy.below) },
    ))
    (λ t. let u : b.lo ≤ a.hi = omega (arith, h, hx.below, hy.above) in absurd (grind (arith, nat_tests)))

pub carry_keeps : (s : Bool) (a b : Ends) (x y : ℕ) → IsWithin x a → IsWithin y b → nat_lt x y ≡ s → KeepsBoth x y (by_carry s a b)
carry_keeps true a b x y hx hy h = below_keeps a b x y hx hy (grind (arith, nat_tests))
carry_keeps false a b x y hx hy h = not_below_keeps a b x y hx hy (grind (arith, nat_tests))

-- Z

shared_keeps : (a b : Ends) (x y : ℕ) → IsWithin x a → IsWithin y b → x ≡ y → KeepsBoth x y (shared a b)
shared_keeps a b x y hx hy h =
    both_keep (common a b) (common a b) x y
    (common_keeps a b x hx (record { above = omega (arith, h, hy.above); below = omega (arith, h, hy.below) }))
    (common_keeps a b y (record { above = omega (arith, h, hx.above); below = omega (arith, h, hx.below) }) hy)

without_keeps : (v : ℕ) (a : Ends) (x : ℕ) → IsWithin x a → (x ≡ v → ⊥) → Keeps x (without v a)
without_keeps v a x h ne =
    keep_one (nat_eq a.lo v) _ _ x
    (λ t. let e : a.lo ≡ v = grind (arith, nat_tests) in between_keeps _ _ x (omega (arith, e, ne, h.above)) h.below)
    (λ t. keep_one (nat_eq a.hi v) _ _ x
    (λ t'. let e : a.hi ≡ v = grind (arith, nat_tests) in record { above = h.above; below = omega (arith, e, ne, h.below) })
    (λ t'. h))

apart_keeps : (a b : Ends) (x y : ℕ) → IsWithin x a → IsWithin y b → (x ≡ y → ⊥) → KeepsBoth x y (apart a b)
apart_keeps a b x y hx hy ne =
    keep_if (is_single b) _ _ x y
    (λ t. let e : b.lo ≡ b.hi = grind (arith, nat_tests) in
    both_keep (without b.lo a) (Some b) x y (without_keeps b.lo a x hx (λ same. ne (omega (arith, same, e, hy.above, hy.below)))) hy)
    (λ t. keep_if (is_single a) _ _ x y
    (λ t'. let e : a.lo ≡ a.hi = grind (arith, nat_tests) in
    both_keep (Some a) (without a.lo b) x y hx (without_keeps a.lo b y hy (λ same. ne (omega (arith, same, e, hx.above, hx.below)))))
    (λ t'. (hx, hy)))

pub zero_keeps : (s : Bool) (a b : Ends) (x y : ℕ) → IsWithin x a → IsWithin y b → nat_eq x y ≡ s → KeepsBoth x y (by_zero s a b)
zero_keeps true a b x y hx hy h = shared_keeps a b x y hx hy (grind (arith, nat_tests))
zero_keeps false a b x y hx hy h = apart_keeps a b x y hx hy (λ same. grind (arith, nat_tests))

-- S

-- What flag S of a difference says, by the signs of the two numbers
pub record IsSign (half x y : ℕ) (s : Bool) : Type 0 where
  pub low : x < half → y < half → nat_lt x y ≡ s
  pub high : half ≤ x → half ≤ y → nat_lt x y ≡ s
  pub less : half ≤ x → y < half → s ≡ true
  pub more : x < half → half ≤ y → s ≡ false

one_sign_keeps : (s : Bool) (p : Option (Ends × Ends)) (x y : ℕ) → nat_lt x y ≡ s → KeepsBoth x y p → KeepsBoth x y (of_one_sign s p)
one_sign_keeps s None x y e h = h
one_sign_keeps s (Some p) x y e h = carry_keeps s p.0 p.1 x y h.0 h.1 e

less_keeps : (half : ℕ) (s : Bool) (a b : Ends) (x y : ℕ) → IsWithin x a → IsWithin y b → half ≤ x → y < half → s ≡ true
    → KeepsBoth x y (of_two_signs half s a b)
less_keeps half true a b x y hx hy wx wy e =
    both_keep (upper half a) (lower half b) x y (upper_keeps half a x hx wx) (lower_keeps half b y hy wy)
less_keeps half false a b x y hx hy wx wy e = absurd (cc)

more_keeps : (half : ℕ) (s : Bool) (a b : Ends) (x y : ℕ) → IsWithin x a → IsWithin y b → x < half → half ≤ y → s ≡ false
    → KeepsBoth x y (of_two_signs half s a b)
more_keeps half false a b x y hx hy wx wy e =
    both_keep (lower half a) (upper half b) x y (lower_keeps half a x hx wx) (upper_keeps half b y hy wy)
more_keeps half true a b x y hx hy wx wy e = absurd (cc)

abbrev same_signs : ℕ → Bool → Ends → Ends → Option (Ends × Ends)
same_signs half s a b = either (of_one_sign s (both (lower half a) (lower half b))) (of_one_sign s (both (upper half a) (upper half b)))

sign_by : (half : ℕ) (s : Bool) (a b : Ends) (x y : ℕ) (p q : Bool) → p ≡ nat_lt x half → q ≡ nat_lt y half → IsWithin x a → IsWithin y b
    → IsSign half x y s → KeepsBoth x y (by_sign half s a b)
sign_by half s a b x y true true is_p is_q hx hy sign =
    let wx : x < half = grind (arith, nat_tests) in
    let wy : y < half = grind (arith, nat_tests) in
    either_first (same_signs half s a b) (of_two_signs half s a b) x y
    (either_first (of_one_sign s (both (lower half a) (lower half b))) (of_one_sign s (both (upper half a) (upper half b))) x y
    (one_sign_keeps s (both (lower half a) (lower half b)) x y (sign.low wx wy)
    (both_keep (lower half a) (lower half b) x y (lower_keeps half a x hx wx) (lower_keeps half b y hy wy))))
sign_by half s a b x y true false is_p is_q hx hy sign =
    let wx : x < half = grind (arith, nat_tests) in
    let wy : half ≤ y = grind (arith, nat_tests) in
    either_second (same_signs half s a b) (of_two_signs half s a b) x y (more_keeps half s a b x y hx hy wx wy (sign.more wx wy))
sign_by half s a b x y false true is_p is_q hx hy sign =
    let wx : half ≤ x = grind (arith, nat_tests) in
    let wy : y < half = grind (arith, nat_tests) in
    either_second (same_signs half s a b) (of_two_signs half s a b) x y (less_keeps half s a b x y hx hy wx wy (sign.less wx wy))
sign_by half s a b x y false false is_p is_q hx hy sign =
    let wx : half ≤ x = grind (arith, nat_tests) in
    let wy : half ≤ y = grind (arith, nat_tests) in
    either_first (same_signs half s a b) (of_two_signs half s a b) x y
    (either_second (of_one_sign s (both (lower half a) (lower half b))) (of_one_sign s (both (upper half a) (upper half b))) x y
    (one_sign_keeps s (both (upper half a) (upper half b)) x y (sign.high wx wy)
    (both_keep (upper half a) (upper half b) x y (upper_keeps half a x hx wx) (upper_keeps half b y hy wy))))

pub sign_keeps : (half : ℕ) (s : Bool) (a b : Ends) (x y : ℕ) → IsWithin x a → IsWithin y b → IsSign half x y s
    → KeepsBoth x y (by_sign half s a b)
sign_keeps half s a b x y = sign_by half s a b x y (nat_lt x half) (nat_lt y half) refl refl
