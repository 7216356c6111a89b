-- What is left lies in the old ranges.
use Rattle.std.proofs.Common.{◌≡◌, ℕ, ◌<◌, ◌≤◌, Bool, true, false, if◌then◌else◌, Option, None, Some, nat_eq}
use Rattle.std.proofs.Common.{nat_lt, nat_le, refl, arith}
use Rattle.std.proofs.lemmas.Bool.Decides.{nat_tests}
use Rattle.uz_schedule.specs.Ends.{Ends}
use Rattle.uz_range.specs.Answers.{is_single}
use Rattle.uz_range.specs.Narrowing.{by_value, against, valued, of_part, either_one, result_narrowed}
use Rattle.uz_range.specs.Narrowing.{between, common, lower, upper, both, joined, either, below, not_below, by_carry, without}
use Rattle.uz_range.specs.Narrowing.{apart, by_zero, of_one_sign, of_two_signs, by_sign, less, left_less}
use Rattle.uz_range.specs.Narrowing.{LiesIn, BothLieIn, LeftLiesIn}

both_if : (t : Bool) (p q : Option (Ends × Ends)) (a b : Ends) → (t ≡ true → BothLieIn a b p) → (t ≡ false → BothLieIn a b q)
    → BothLieIn a b (if t then p else q)
both_if true p q a b f g = f refl
both_if false p q a b f g = g refl

left_if : (t : Bool) (p q : Option Ends) (a : Ends) → (t ≡ true → LeftLiesIn a p) → (t ≡ false → LeftLiesIn a q)
    → LeftLiesIn a (if t then p else q)
left_if true p q a f g = f refl
left_if false p q a f g = g refl

pub itself : (a : Ends) → a.lo ≤ a.hi → LiesIn a a
itself a h = record { above = omega arith; ordered = h; below = omega arith }

pub between_lies : (lo hi : ℕ) (a : Ends) → a.lo ≤ lo → hi ≤ a.hi → LeftLiesIn a (between lo hi)
between_lies lo hi a above below =
    left_if (nat_le lo hi) _ _ a (λ t. record { above = above; ordered = grind (arith, nat_tests); below = below }) (λ t. tt)

first_lies : (a b : Ends) → LeftLiesIn a (common a b)
first_lies a b = between_lies _ _ a (omega arith) (omega arith)

second_lies : (a b : Ends) → LeftLiesIn b (common a b)
second_lies a b = between_lies _ _ b (omega arith) (omega arith)

lower_lies : (half : ℕ) (a : Ends) → LeftLiesIn a (lower half a)
lower_lies half a = between_lies _ _ a (omega arith) (omega arith)

upper_lies : (half : ℕ) (a : Ends) → LeftLiesIn a (upper half a)
upper_lies half a = between_lies _ _ a (omega arith) (omega arith)

both_lie : (p q : Option Ends) (a b : Ends) → LeftLiesIn a p → LeftLiesIn b q → BothLieIn a b (both p q)
both_lie None q a b f g = tt
both_lie (Some e) None a b f g = tt
both_lie (Some e) (Some e') a b f g = (f, g)

joined_lies : (e f a : Ends) → LiesIn e a → LiesIn f a → LiesIn (joined e f) a
joined_lies e f a g h = record {
  above = omega (arith, g.above, h.above);
  ordered = omega (arith, g.ordered, h.ordered);
  below = omega (arith, g.below, h.below);
}

either_lies : (p q : Option (Ends × Ends)) (a b : Ends) → BothLieIn a b p → BothLieIn a b q → BothLieIn a b (either p q)
either_lies None q a b f g = g
either_lies (Some p) None a b f g = f
either_lies (Some p) (Some q) a b f g = (joined_lies p.0 q.0 a f.0 g.0, joined_lies p.1 q.1 b f.1 g.1)

below_lies : (a b : Ends) → a.lo ≤ a.hi → b.lo ≤ b.hi → BothLieIn a b (below a b)
below_lies a b la lb =
    both_if (nat_lt a.lo b.hi) _ _ a b
    (λ t. let u : a.lo < b.hi = grind (arith, nat_tests) in (
      record { above = omega arith; ordered = omega (arith, u, la); below = omega arith },
      record { above = omega arith; ordered = omega (arith, u, lb); below = omega arith },
    ))
    (λ t. tt)

not_below_lies : (a b : Ends) → a.lo ≤ a.hi → b.lo ≤ b.hi → BothLieIn a b (not_below a b)
not_below_lies a b la lb =
    both_if (nat_le b.lo a.hi) _ _ a b
    (λ t. let u : b.lo ≤ a.hi = grind (arith, nat_tests) in (
      record { above = omega arith; ordered = omega (arith, u, la); below = omega arith },
      record { above = omega arith; ordered = omega (arith, u, lb); below = omega arith },
    ))
    (λ t. tt)

pub carry_lies : (s : Bool) (a b : Ends) → a.lo ≤ a.hi → b.lo ≤ b.hi → BothLieIn a b (by_carry s a b)
carry_lies true a b la lb = below_lies a b la lb
carry_lies false a b la lb = not_below_lies a b la lb

without_lies : (v : ℕ) (a : Ends) → a.lo ≤ a.hi → LeftLiesIn a (without v a)
without_lies v a la =
    left_if (nat_eq a.lo v) _ _ a
    (λ t. let e : a.lo ≡ v = grind (arith, nat_tests) in between_lies _ _ a (omega (arith, e)) (omega arith))
    (λ t. left_if (nat_eq a.hi v) _ _ a
    (λ t'. let e : a.hi ≡ v = grind (arith, nat_tests) in
    let low : a.lo < v = grind (arith, nat_tests) in
    record { above = omega arith; ordered = omega (arith, low); below = omega (arith, e) })
    (λ t'. itself a la))

apart_lies : (a b : Ends) → a.lo ≤ a.hi → b.lo ≤ b.hi → BothLieIn a b (apart a b)
apart_lies a b la lb =
    both_if (is_single b) _ _ a b
    (λ t. both_lie (without b.lo a) (Some b) a b (without_lies b.lo a la) (itself b lb))
    (λ t. both_if (is_single a) _ _ a b
    (λ t'. both_lie (Some a) (without a.lo b) a b (itself a la) (without_lies a.lo b lb))
    (λ t'. (itself a la, itself b lb)))

pub zero_lies : (s : Bool) (a b : Ends) → a.lo ≤ a.hi → b.lo ≤ b.hi → BothLieIn a b (by_zero s a b)
zero_lies true a b la lb = both_lie (common a b) (common a b) a b (first_lies a b) (second_lies a b)
zero_lies false a b la lb = apart_lies a b la lb

-- a range within a range within a range
within : (e f a : Ends) → LiesIn e f → LiesIn f a → LiesIn e a
within e f a g h = record { above = omega (arith, g.above, h.above); ordered = g.ordered; below = omega (arith, g.below, h.below) }

both_within : (p : Option (Ends × Ends)) (c d a b : Ends) → BothLieIn c d p → LiesIn c a → LiesIn d b → BothLieIn a b p
both_within None c d a b f g h = tt
both_within (Some p) c d a b f g h = (within p.0 c a f.0 g, within p.1 d b f.1 h)

one_sign_lies : (s : Bool) (p : Option (Ends × Ends)) (a b : Ends) → BothLieIn a b p → BothLieIn a b (of_one_sign s p)
one_sign_lies s None a b f = tt
one_sign_lies s (Some p) a b f = both_within (by_carry s p.0 p.1) p.0 p.1 a b (carry_lies s p.0 p.1 f.0.ordered f.1.ordered) f.0 f.1

two_signs_lie : (half : ℕ) (s : Bool) (a b : Ends) → BothLieIn a b (of_two_signs half s a b)
two_signs_lie half true a b = both_lie (upper half a) (lower half b) a b (upper_lies half a) (lower_lies half b)
two_signs_lie half false a b = both_lie (lower half a) (upper half b) a b (lower_lies half a) (upper_lies half b)

pub sign_lies : (half : ℕ) (s : Bool) (a b : Ends) → BothLieIn a b (by_sign half s a b)
sign_lies half s a b =
    either_lies _ _ a b
    (either_lies _ _ a b
    (one_sign_lies s (both (lower half a) (lower half b)) a b (both_lie _ _ a b (lower_lies half a) (lower_lies half b)))
    (one_sign_lies s (both (upper half a) (upper half b)) a b (both_lie _ _ a b (upper_lies half a) (upper_lies half b))))
    (two_signs_lie half s a b)

pub less_lies : (half k : ℕ) (now : Ends) (p : Option (Ends × Ends)) → LeftLiesIn now (left_less half k now p)
less_lies half k now None = tt
less_lies half k now (Some p) = second_lies (less half p.0 k) now

value_lies : (half j : ℕ) (s : Bool) (now : Ends) → now.lo ≤ now.hi → LeftLiesIn now (by_value half j s now)
value_lies half j s now l =
    left_if (nat_eq j 1) _ _ now
    (λ t. left_if s _ _ now (λ u. between_lies _ _ now (omega arith) (omega arith)) (λ u. between_lies _ _ now (omega arith) (omega arith)))
    (λ t. left_if (nat_eq j 2) _ _ now
    (λ t'. left_if s _ _ now (λ u. upper_lies half now) (λ u. lower_lies half now))
    (λ t'. itself now l))

left_within : (p : Option Ends) (c a : Ends) → LeftLiesIn c p → LiesIn c a → LeftLiesIn a p
left_within None c a f g = tt
left_within (Some e) c a f g = within e c a f g

valued_lies : (half j : ℕ) (s : Bool) (p : Option Ends) (a : Ends) → LeftLiesIn a p → LeftLiesIn a (valued half j s p)
valued_lies half j s None a f = tt
valued_lies half j s (Some e) a f = left_within (by_value half j s e) e a (value_lies half j s e f.ordered) f

either_one_lies : (p q : Option Ends) (a : Ends) → LeftLiesIn a p → LeftLiesIn a q → LeftLiesIn a (either_one p q)
either_one_lies None q a f g = g
either_one_lies (Some e) None a f g = f
either_one_lies (Some e) (Some e') a f g = joined_lies e e' a f g

part_lies : (half j : ℕ) (s : Bool) (k : ℕ) (now : Ends) (part : Option Ends) → LeftLiesIn now (of_part half j s k now part)
part_lies half j s k now part =
    valued_lies half j s (left_less half k now (against half j s k part)) now (less_lies half k now (against half j s k part))

pub result_lies : (half j : ℕ) (s : Bool) (old : Ends) (k : ℕ) (now : Ends) → LeftLiesIn now (result_narrowed half j s old k now)
result_lies half j s old k now =
    either_one_lies (of_part half j s k now (lower k old)) (of_part half j s k now (upper k old)) now
    (part_lies half j s k now (lower k old)) (part_lies half j s k now (upper k old))
