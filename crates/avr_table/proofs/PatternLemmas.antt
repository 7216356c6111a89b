-- Laws of patterns of bits.
use Rattle.std.proofs.Common.{◌≡◌, ℕ, zero, suc, ◌+◌, ◌*◌, ◌/◌, ◌%◌, ◌^◌, ◌<◌, ◌≤◌, Bool, true, false, ◌&&◌, List, [], ◌∷◌, Option, None}
use Rattle.std.proofs.Common.{Some, length, nat_eq, refl, ◌∙◌, ap, subst, arith, bit_and}
use Rattle.std.proofs.lemmas.Bool.Decides.{nat_tests}
use Rattle.std.specs.Int.{bit_at}
use Rattle.std.specs.Int.Bits.{and_zero_r, and_le_r}
use Rattle.std.proofs.lemmas.Nat.{and_block, pow_pos}
use Rattle.std.proofs.lemmas.Nat.Bits.{shr_and_one, bit_at-lt}
use Rattle.avr_table.specs.Pattern.{digit, meets, stands}

-- 1 where the bit is fixed
abbrev pub fixed_bit : Option Bool → ℕ
fixed_bit None = 0
fixed_bit (Some d) = 1

abbrev pub value_bit : Option Bool → ℕ
value_bit None = 0
value_bit (Some false) = 0
value_bit (Some true) = 1

-- the fixed places of a pattern, and the bits there
abbrev pub mask_of : List ℕ → ℕ
mask_of [] = 0
mask_of (c ∷ cs) = fixed_bit (digit c) * 2 ^ length cs + mask_of cs

abbrev pub value_of : List ℕ → ℕ
value_of [] = 0
value_of (c ∷ cs) = value_bit (digit c) * 2 ^ length cs + value_of cs

and_true : (a b : Bool) → (a && b) ≡ true → (a ≡ true) × (b ≡ true)
and_true true true h = (refl, refl)
and_true true false h = (refl, h)
and_true false true h = (h, refl)
and_true false false h = (h, h)

both_true : (a b : Bool) → a ≡ true → b ≡ true → (a && b) ≡ true
both_true true b h k = k
both_true false b h k = h

pow-suc : (k : ℕ) → 2 ^ suc k ≡ 2 ^ k + 2 ^ k
pow-suc k = omega arith

split_at : (n k : ℕ) → n / 2 ^ k * 2 ^ k + n % 2 ^ k ≡ n
split_at n k = omega (arith, pow_pos k)

below_at : (n k : ℕ) → n % 2 ^ k < 2 ^ k
below_at n k = omega (arith, pow_pos k)

and_cons : (n k a m : ℕ) → m < 2 ^ k → bit_and n (a * 2 ^ k + m) ≡ bit_and (n / 2 ^ k) a * 2 ^ k + bit_and n m
and_cons n k a m h =
    let q : ℕ = n / 2 ^ k in
    let r : ℕ = n % 2 ^ k in
    let e1 : bit_and (q * 2 ^ k + r) (a * 2 ^ k + m) ≡ bit_and q a * 2 ^ k + bit_and r m = and_block k q a r m (below_at n k) h in
    let e2 : bit_and (q * 2 ^ k + r) (0 * 2 ^ k + m) ≡ bit_and q 0 * 2 ^ k + bit_and r m = and_block k q 0 r m (below_at n k) h in
    let s : q * 2 ^ k + r ≡ n = split_at n k in
    let z : 0 * 2 ^ k + m ≡ m = omega arith in
    let f1 : bit_and n (a * 2 ^ k + m) ≡ bit_and q a * 2 ^ k + bit_and r m =
    subst (λ x. bit_and x (a * 2 ^ k + m) ≡ bit_and q a * 2 ^ k + bit_and r m) s e1 in
    let f2 : bit_and n m ≡ bit_and q 0 * 2 ^ k + bit_and r m = subst (λ x. bit_and x m ≡ bit_and q 0 * 2 ^ k + bit_and r m) s
    (subst (λ y. bit_and (q * 2 ^ k + r) y ≡ bit_and q 0 * 2 ^ k + bit_and r m) z e2) in
    let f3 : bit_and n m ≡ bit_and r m = omega (arith, f2, ap (λ x. x * 2 ^ k) (and_zero_r q)) in
    omega (arith, f1, f3)

step_to : (d : Option Bool) (n k m v : ℕ) → m < 2 ^ k → meets d (bit_at n k) ≡ true → bit_and n m ≡ v → bit_and n (fixed_bit d * 2 ^ k + m)
    ≡ value_bit d * 2 ^ k + v
step_to None n k m v h b e = omega (arith, and_cons n k 0 m h, ap (λ x. x * 2 ^ k) (and_zero_r (n / 2 ^ k)), e)
step_to (Some false) n k m v h b e =
    let z : bit_at n k ≡ 0 = grind (arith, nat_tests) in
    omega (arith, and_cons n k 1 m h, ap (λ x. x * 2 ^ k) (shr_and_one n k ∙ z), e)
step_to (Some true) n k m v h b e =
    let z : bit_at n k ≡ 1 = grind (arith, nat_tests) in
    omega (arith, and_cons n k 1 m h, ap (λ x. x * 2 ^ k) (shr_and_one n k ∙ z), e)

-- the parts of a number
pub top_part : (b d y v P : ℕ) → b < 2 → d < 2 → y < P → v < P → b * P + y ≡ d * P + v → (b ≡ d) × (y ≡ v)
top_part zero zero y v P hb hd hy hv e = (refl, omega arith)
top_part zero (suc d) y v P hb hd hy hv e = let z : d ≡ 0 = omega arith in let p : suc d * P ≡ P = rw z (omega arith) in
    absurd (omega (arith, p))
top_part (suc b) zero y v P hb hd hy hv e = let z : b ≡ 0 = omega arith in let p : suc b * P ≡ P = rw z (omega arith) in
    absurd (omega (arith, p))
top_part (suc b) (suc d) y v P hb hd hy hv e = let z : b ≡ d = omega arith in let p : suc b * P ≡ suc d * P = ap (λ x. suc x * P) z in
    (ap suc z, omega (arith, p))

bit_part : (n k m v d : ℕ) → m < 2 ^ k → v < 2 ^ k → d < 2 → bit_and n (1 * 2 ^ k + m) ≡ d * 2 ^ k + v → (bit_at n k ≡ d)
    × (bit_and n m ≡ v)
bit_part n k m v d h hv hd e =
    top_part (bit_at n k) d (bit_and n m) v (2 ^ k) (bit_at-lt n k) hd (omega (arith, and_le_r n m)) hv
    (omega (arith, and_cons n k 1 m h, ap (λ x. x * 2 ^ k) (shr_and_one n k), e))

step_from : (d : Option Bool) (n k m v : ℕ) → m < 2 ^ k → v < 2 ^ k → bit_and n (fixed_bit d * 2 ^ k + m) ≡ value_bit d * 2 ^ k + v
    → (meets d (bit_at n k) ≡ true) × (bit_and n m ≡ v)
step_from None n k m v h hv e = (refl, omega (arith, and_cons n k 0 m h, ap (λ x. x * 2 ^ k) (and_zero_r (n / 2 ^ k)), e))
step_from (Some false) n k m v h hv e = let b : (bit_at n k ≡ 0) × (bit_and n m ≡ v) = bit_part n k m v 0 h hv (omega arith) e in
    (ap (λ x. nat_eq x 0) b.0, b.1)
step_from (Some true) n k m v h hv e = let b : (bit_at n k ≡ 1) × (bit_and n m ≡ v) = bit_part n k m v 1 h hv (omega arith) e in
    (ap (λ x. nat_eq x 1) b.0, b.1)

fixed-le : (d : Option Bool) → fixed_bit d ≤ 1
fixed-le None = omega arith
fixed-le (Some d) = omega arith

value-le : (d : Option Bool) → value_bit d ≤ 1
value-le None = omega arith
value-le (Some false) = omega arith
value-le (Some true) = omega arith

cons-lt : (a k m : ℕ) → a ≤ 1 → m < 2 ^ k → a * 2 ^ k + m < 2 ^ suc k
cons-lt zero k m ha h = omega (arith, pow-suc k)
cons-lt (suc a) k m ha h = let z : a ≡ 0 = omega arith in rw z (omega (arith, pow-suc k))

pub mask-lt : (p : List ℕ) → mask_of p < 2 ^ length p
mask-lt [] = omega arith
mask-lt (c ∷ cs) = cons-lt (fixed_bit (digit c)) (length cs) (mask_of cs) (fixed-le (digit c)) (mask-lt cs)

pub value-lt : (p : List ℕ) → value_of p < 2 ^ length p
value-lt [] = omega arith
value-lt (c ∷ cs) = cons-lt (value_bit (digit c)) (length cs) (value_of cs) (value-le (digit c)) (value-lt cs)

pub mask_from_stands : (p : List ℕ) (n : ℕ) → stands p n ≡ true → bit_and n (mask_of p) ≡ value_of p
unfolding stands
mask_from_stands [] n h = and_zero_r n
mask_from_stands (c ∷ cs) n h =
    let a : (meets (digit c) (bit_at n (length cs)) ≡ true) × (stands cs n ≡ true) = and_true _ _ h in
    step_to (digit c) n (length cs) (mask_of cs) (value_of cs) (mask-lt cs) a.0 (mask_from_stands cs n a.1)

pub stands_from_mask : (p : List ℕ) (n : ℕ) → bit_and n (mask_of p) ≡ value_of p → stands p n ≡ true
unfolding stands
stands_from_mask [] n h = refl
stands_from_mask (c ∷ cs) n h =
    let a : (meets (digit c) (bit_at n (length cs)) ≡ true) × (bit_and n (mask_of cs) ≡ value_of cs) = step_from (digit c) n (length cs)
    (mask_of cs) (value_of cs) (mask-lt cs) (value-lt cs) h in
    both_true _ _ a.0 (stands_from_mask cs n a.1)
