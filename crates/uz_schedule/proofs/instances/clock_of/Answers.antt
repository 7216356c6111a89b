use Rattle.std.proofs.Common.{◌≡◌, ℕ, zero, suc, ◌-◌, ◌*◌, ◌<◌, ◌≤◌, ◌*ℤ◌, ◌+ℤ◌, pos, refl, sym, subst, ap, ◌∙◌, arith}
use Rattle.std.proofs.Common.{rules, SFits, of_z, to_z, w16, w32}
use Rattle.std.specs.Int.Signed.{mag}
use Rattle.std.proofs.Math.IntN.{ℤ, negsuc, neg_ℤ, pos-*ℤ-pos, negsuc-*ℤ-pos}
use Rattle.std.proofs.Math.Facts.{to_z-of_z}
use Rattle.std.proofs.lemmas.Nat.{mul-le}
use Rattle.uz_schedule.proofs.instances.clock_of.Goals as goal

mag-neg : (n : ℕ) → mag (neg_ℤ (pos n)) ≡ n - 1
mag-neg zero = refl
mag-neg (suc n) = omega arith

-- the product of 16 bits and 8 is one of 24
bound : (m b : ℕ) → m ≤ 32768 → b ≤ 255 → m * b < 8388608
bound m b h k = omega (arith, mul-le m b 32768 255 h k)

product : (a : ℤ) (b : ℕ) → mag a < 32768 → b ≤ 255 → mag (a *ℤ pos b) < 8388608
product (pos m) b h k = subst (λ z. mag z < 8388608) (sym (pos-*ℤ-pos m b)) (bound m b (omega (arith, h)) k)
product (negsuc m) b h k =
    subst (λ z. mag z < 8388608) (sym (negsuc-*ℤ-pos m b)) (omega (arith, mag-neg (suc m * b), bound (suc m) b (omega (arith, h)) k))

-- and its sum with 16 bits one of 32
sum : (n : ℕ) (z : ℤ) → n < 65536 → mag z < 8388608 → mag (pos n +ℤ z) < 2147483648
sum n (pos m) h k = omega (arith, h, k)
sum n (negsuc m) h k = search (rules, h, k)

-- a number of 32 bits is read as it was written
back : (z : ℤ) → mag z < 2147483648 → to_z w32 (of_z w32 z) ≡ z
back z h = to_z-of_z {w = w32} (record { sfits = h })

-- the product as it is read
product_back : (y z : ℤ) (b : ℕ) → mag y < 32768 → z ≡ pos b → b ≤ 255 → to_z w32 (of_z w32 y) *ℤ to_z w32 (of_z w32 z) ≡ y *ℤ pos b
product_back y z b h e k =
    ap (λ a. a *ℤ to_z w32 (of_z w32 z)) (back y (omega (arith, h))) ∙ ap (λ w. y *ℤ to_z w32 (of_z w32 w)) e
    ∙ ap (λ w. y *ℤ w) (back (pos b) (omega (arith, k)))

-- the sum as it is read
sum_back : (x y z : ℤ) (n b : ℕ) → mag x < 2147483648 → mag y < 32768 → x ≡ pos n → z ≡ pos b → b ≤ 255
    → to_z w32 (of_z w32 x) +ℤ to_z w32 (of_z w32 (to_z w32 (of_z w32 y) *ℤ to_z w32 (of_z w32 z))) ≡ pos n +ℤ y *ℤ pos b
sum_back x y z n b g h d e k =
    ap (λ w. w +ℤ to_z w32 (of_z w32 (to_z w32 (of_z w32 y) *ℤ to_z w32 (of_z w32 z)))) (back x g ∙ d)
    ∙ ap (λ w. pos n +ℤ to_z w32 (of_z w32 w)) (product_back y z b h e k)
    ∙ ap (λ w. pos n +ℤ w) (back (y *ℤ pos b) (omega (arith, product y b h k)))

pub overflow_mul-result : goal.overflow_mul-result
overflow_mul-result c =
    let slope : SFits w16 c.from-2.result = search rules in
    record {
      sfits = subst (λ z. mag z < 2147483648) (sym (product_back c.from-2.result c.from-3.result c.args.count slope.sfits c.from-3.ensures
          (omega (arith, c.ranges.count.fits))))
          (omega (arith, product c.from-2.result c.args.count slope.sfits (omega (arith, c.ranges.count.fits))));
    }

pub overflow_add-result : goal.overflow_add-result
overflow_add-result c =
    let slope : SFits w16 c.from-2.result = search rules in
    let clock : c.args.point.now.clock < 65536 = search rules in
    let is = sum_back c.from.result c.from-2.result c.from-3.result c.args.point.now.clock c.args.count c.from.type_inv slope.sfits c.from.ensures
    c.from-3.ensures (omega (arith, c.ranges.count.fits)) in
    record {
      sfits = subst (λ z. mag z < 2147483648) (sym is) (sum c.args.point.now.clock (c.from-2.result *ℤ pos c.args.count) clock
          (product c.from-2.result c.args.count slope.sfits (omega (arith, c.ranges.count.fits))));
    }

pub returns : goal.returns
returns c =
    let slope : SFits w16 c.from-2.result = search rules in
    let clock : c.args.point.now.clock < 65536 = search rules in
    let same : to_z w16 (of_z w16 c.args.point.now.slope) ≡ c.args.point.now.slope = search rules in
    let is = sum_back c.from.result c.from-2.result c.from-3.result c.args.point.now.clock c.args.count c.from.type_inv slope.sfits c.from.ensures
    c.from-3.ensures (omega (arith, c.ranges.count.fits)) in
    let small = sum c.args.point.now.clock (c.from-2.result *ℤ pos c.args.count) clock
    (product c.from-2.result c.args.count slope.sfits (omega (arith, c.ranges.count.fits))) in
    ap (λ z. to_z w32 (of_z w32 z)) is ∙ back (pos c.args.point.now.clock +ℤ c.from-2.result *ℤ pos c.args.count) small
    ∙ ap (λ a. pos c.args.point.now.clock +ℤ a *ℤ pos c.args.count) (c.from-2.ensures ∙ same)
