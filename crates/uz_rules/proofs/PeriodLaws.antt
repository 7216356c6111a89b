-- What a point's facts say is the same after their period, so that the counts of one period tell of all.
use Rattle.uz_rules.proofs.Common.{◌<◌, ◌≤◌, ◌≡◌, ℕ, zero, suc, ◌+◌, ◌-◌, ◌*◌, ◌/◌, ◌%◌, ◌^◌, min, Bool, true, false, List, [], ◌∷◌, All}
use Rattle.uz_rules.proofs.Common.{map, length, nat_lt, refl, sym, ap, ap₂, ◌∙◌, subst, arith, inl, inr, pow_pos, pow-suc, mul_comm}
use Rattle.uz_rules.proofs.Common.{mul_assoc, mul_left_comm, mul-add, suc-mul, slice_index_or, AllByRecursion, AllWithin, nat_tests}
use Rattle.uz_rules.proofs.Common.{eqb_tells, get_or_default, Ends, Fact, Loop, PairFact, AnyPair, LoopPair, Range, Instance, Point, val_of}
use Rattle.uz_rules.proofs.Common.{span_of_val, cell_span, pair_of, pairs_of, contents_inside, any_from, said_at, facts_inside, ByteRepeats}
use Rattle.uz_rules.proofs.Common.{recursion_from_All, one_number}
use Rattle.std.specs.Int.Count.{count_trailing_zeros, under}
use Rattle.std.proofs.lemmas.Nat.{pow-add, mod_below, div-add-mod'}
use Rattle.uz_rules.specs.Periods.{count_factor, pair_count_factor, PairRepeats, PairsRepeat, PointRepeats}
use Rattle.uz_rules.proofs.AtCounts.{any_tells, any_holds}

-- Multiples of powers of two

record Multiple (m n : ℕ) : Type 0 where
  quotient : ℕ
  is : n ≡ m * quotient

twice : (h x p q : ℕ) → h * x ≡ p * q → (2 * h) * x ≡ (p * 2) * q
twice h x p q e = mul_assoc 2 h x ∙ (ap (λ y. 2 * y) e ∙ (sym (mul_left_comm p 2 q) ∙ sym (mul_assoc p 2 q)))

-- a number is a multiple of 2 ^ k once it is doubled k times, but for each zero at its end
doubled : (k n : ℕ) → Multiple (2 ^ k) (n * 2 ^ (k - count_trailing_zeros k n))
unfolding count_trailing_zeros
doubled zero n = record { quotient = n; is = mul_comm n 1 }
doubled (suc k) n = by_digit (n % 2) refl (doubled k (n / 2))
  where
    by_digit : (d : ℕ) → n % 2 ≡ d → Multiple (2 ^ k) (n / 2 * 2 ^ (k - count_trailing_zeros k (n / 2)))
        → Multiple (2 ^ suc k) (n * 2 ^ (suc k - under d (count_trailing_zeros k (n / 2))))
    by_digit zero even half =
        let t = count_trailing_zeros k (n / 2) in
        let is : n ≡ 2 * (n / 2) = omega (arith, even) in
        let less : suc k - suc t ≡ k - t = omega arith in
        record {
          quotient = half.quotient;
          is = ap (λ e. n * 2 ^ e) less ∙ (ap (λ m. m * 2 ^ (k - t)) is ∙ (twice (n / 2) (2 ^ (k - t)) (2 ^ k) half.quotient half.is
              ∙ ap (λ p. p * half.quotient) (sym (pow-suc 2 k))));
        }
    by_digit (suc d) odd half =
        let all : suc k - zero ≡ suc k = omega arith in
        record { quotient = n; is = ap (λ e. n * 2 ^ e) all ∙ mul_comm n (2 ^ suc k) }

-- Facts

byte_again : (a b c n q : ℕ) → a * n ≡ 256 * q → (a * (c + n) + b) % 256 ≡ (a * c + b) % 256
byte_again a b c n q e = let sum = mul-add a c n in omega (arith, e, sum)

pair_again : (a b c n q : ℕ) → a * n ≡ 65536 * q → (a * (c + n) + b) % 65536 ≡ (a * c + b) % 65536
pair_again a b c n q e = let sum = mul-add a c n in omega (arith, e, sum)

fact_repeats : (f : Fact) → ByteRepeats (2 ^ (8 - count_trailing_zeros 8 (count_factor f))) f
unfolding ByteRepeats
fact_repeats (Loop a b) l c =
    let m = doubled 8 a in
    ap (λ x. Range (one_number x)) (byte_again a b c (2 ^ (8 - count_trailing_zeros 8 a)) m.quotient m.is)
fact_repeats f l c = refl

pair_fact_repeats : (f : PairFact) → PairRepeats (2 ^ (16 - count_trailing_zeros 16 (pair_count_factor f))) f
unfolding PairRepeats
pair_fact_repeats (LoopPair a b) l c r regs =
    let m = doubled 16 a in
    ap one_number (pair_again a b c (2 ^ (16 - count_trailing_zeros 16 a)) m.quotient m.is)
pair_fact_repeats f l c r regs = refl

-- as the exponent is made
pub byte_repeats : (f : Fact) (a z e : ℕ) → a ≡ count_factor f → z ≡ count_trailing_zeros 8 a → e ≡ 8 - z → ByteRepeats (2 ^ e) f
byte_repeats f a z e factor zeros is = subst (λ e. ByteRepeats (2 ^ e) f)
    (sym (is ∙ ap (λ z. 8 - z) (zeros ∙ ap (count_trailing_zeros 8) factor))) (fact_repeats f)

pub pair_repeats : (f : PairFact) (a z e : ℕ) → a ≡ pair_count_factor f → z ≡ count_trailing_zeros 16 a → e ≡ 16 - z
    → PairRepeats (2 ^ e) f
pair_repeats f a z e factor zeros is = subst (λ e. PairRepeats (2 ^ e) f)
    (sym (is ∙ ap (λ z. 16 - z) (zeros ∙ ap (count_trailing_zeros 16) factor))) (pair_fact_repeats f)

-- Longer periods

many : {A : Type 0} (g : ℕ → A) (p : ℕ) → ((c : ℕ) → g (c + p) ≡ g c) → (k c : ℕ) → g (c + k * p) ≡ g c
many g p h zero c = ap g (omega arith)
many g p h (suc k) c =
    let more : c + suc k * p ≡ (c + k * p) + p = (let s = suc-mul k p in omega (arith, s)) in
    ap g more ∙ (h (c + k * p) ∙ many g p h k c)

after_more : {A : Type 0} (g : ℕ → A) (m n : ℕ) → m ≤ n → ((c : ℕ) → g (c + 2 ^ m) ≡ g c) → (c : ℕ) → g (c + 2 ^ n) ≡ g c
after_more g m n le h c =
    let split : n ≡ (n - m) + m = omega (arith, le) in
    let power : 2 ^ n ≡ 2 ^ (n - m) * 2 ^ m = ap (λ k. 2 ^ k) split ∙ pow-add 2 (n - m) m in
    ap (λ k. g (c + k)) power ∙ many g (2 ^ m) h (2 ^ (n - m)) c

pub byte_longer : (f : Fact) (m n : ℕ) → m ≤ n → ByteRepeats (2 ^ m) f → ByteRepeats (2 ^ n) f
unfolding ByteRepeats
byte_longer f m n le h l c = after_more (λ k. val_of l k f) m n le (h l) c

pair_longer : (f : PairFact) (m n : ℕ) → m ≤ n → PairRepeats (2 ^ m) f → PairRepeats (2 ^ n) f
unfolding PairRepeats
pair_longer f m n le h l c r regs = after_more (λ k. pair_of l k regs r f) m n le (λ k. h l k r regs) c

-- one more fact of a list
pub longest_more : (facts : List Fact) (i m e n : ℕ) (f : Fact) → i < length facts → f ≡ slice_index_or facts i f → m ≤ n → e ≤ n
    → ByteRepeats (2 ^ e) f → AllWithin (ByteRepeats (2 ^ m)) facts 0 i → AllWithin (ByteRepeats (2 ^ n)) facts 0 (i + 1)
longest_more facts i m e n f h is so_far further here all k d low high = elim (eqb_tells k i) [
  | inl t ↦ subst (ByteRepeats (2 ^ n)) (is ∙ (get_or_default facts i f d h ∙ ap (λ j. slice_index_or facts j d) (sym t.1)))
      (byte_longer f e n further here)
  | inr t ↦ byte_longer (slice_index_or facts k d) m n so_far (all k d low (omega (arith, high, t.1)))
]

pub all_longer : (facts : List Fact) (m n : ℕ) → m ≤ n → All (ByteRepeats (2 ^ m)) facts → All (ByteRepeats (2 ^ n)) facts
all_longer facts m n le all k d h = byte_longer (slice_index_or facts k d) m n le (all k d h)

three_same : (a b d x y z : Ends) → a ≡ x → b ≡ y → d ≡ z → (a ∷ b ∷ d ∷ []) ≡ (x ∷ y ∷ z ∷ [])
three_same a b d x y z e f g = cc

pub pairs_longer : (facts : List PairFact) (x y z : PairFact) (i j k n : ℕ) → x ≡ slice_index_or facts 0 AnyPair
    → y ≡ slice_index_or facts 1 AnyPair → z ≡ slice_index_or facts 2 AnyPair → i ≤ n → j ≤ n → k ≤ n → PairRepeats (2 ^ i) x
    → PairRepeats (2 ^ j) y → PairRepeats (2 ^ k) z → PairsRepeat (2 ^ n) facts
unfolding PairRepeats PairsRepeat
pairs_longer facts x y z i j k n of_x of_y of_z le_x le_y le_z h_x h_y h_z l c regs =
    three_same _ _ _ _ _ _ (subst (λ f. pair_of l (c + 2 ^ n) regs 26 f ≡ pair_of l c regs 26 f) of_x
    (pair_longer x i n le_x h_x l c 26 regs))
    (subst (λ f. pair_of l (c + 2 ^ n) regs 28 f ≡ pair_of l c regs 28 f) of_y (pair_longer y j n le_y h_y l c 28 regs))
    (subst (λ f. pair_of l (c + 2 ^ n) regs 30 f ≡ pair_of l c regs 30 f) of_z (pair_longer z k n le_z h_z l c 30 regs))

pub pairs_all_longer : (facts : List PairFact) (m n : ℕ) → m ≤ n → PairsRepeat (2 ^ m) facts → PairsRepeat (2 ^ n) facts
unfolding PairsRepeat
pairs_all_longer facts m n le h l c regs = after_more (λ k. pairs_of l k regs facts) m n le (λ k. h l k regs) c

-- All facts of a point

same_map : {A : Type 0} (f g : Fact → A) (facts : List Fact) → AllByRecursion (λ x. f x ≡ g x) facts → map f facts ≡ map g facts
same_map f g [] h = refl
same_map f g (x ∷ xs) h = ap₂ (λ a b. a ∷ b) h.0 (same_map f g xs h.1)

vals_again : (facts : List Fact) (n l c : ℕ) → All (ByteRepeats n) facts → map (val_of l (c + n)) facts ≡ map (val_of l c) facts
unfolding ByteRepeats
vals_again facts n l c h = same_map (val_of l (c + n)) (val_of l c) facts
    (recursion_from_All (λ f. val_of l (c + n) f ≡ val_of l c f) facts (λ k d b. h k d b l c))

cells_again : (facts : List Fact) (n l c : ℕ) → All (ByteRepeats n) facts → map (cell_span l (c + n)) facts ≡ map (cell_span l c) facts
unfolding ByteRepeats
cells_again facts n l c h = same_map (cell_span l (c + n)) (cell_span l c) facts
    (recursion_from_All (λ f. cell_span l (c + n) f ≡ cell_span l c f) facts (λ k d b. ap span_of_val (h k d b l c)))

pub facts_again : (p : Point) (inst : Instance) (n c : ℕ) → PointRepeats n p → facts_inside inst p (c + n) ≡ facts_inside inst p c
unfolding facts_inside PairsRepeat
facts_again p inst n c r =
    let l = inst.line in
    let regs : map (val_of l (c + n)) p.regs ≡ map (val_of l c) p.regs = vals_again p.regs n l c r.registers in
    let stack : map (val_of l (c + n)) p.stack.items ≡ map (val_of l c) p.stack.items = vals_again p.stack.items n l c r.stack in
    let cells : map (cell_span l (c + n)) p.cells.items ≡ map (cell_span l c) p.cells.items = cells_again p.cells.items n l c r.cells in
    let pairs : pairs_of l (c + n) (map (val_of l (c + n)) p.regs) p.pairs ≡ pairs_of l c (map (val_of l c) p.regs) p.pairs =
    ap (λ vals. pairs_of l (c + n) vals p.pairs) regs ∙ r.pairs l c (map (val_of l c) p.regs) in
    λ i. contents_inside inst (record (said_at p inst c) {
      regs = regs i;
      pairs = pairs i;
      stack = record { items = stack i };
      cells = record { items = cells i };
    })

-- The counts of one period

any_first : (test : ℕ → Bool) (p k n : ℕ) → 0 < p → ((c : ℕ) → test (c + p) ≡ test c) → any_from test k n ≡ true
    → any_from test k p ≡ true
any_first test p k n some again e =
    let any = any_tells test k n e in
    let rest = (any.number - k) % p in
    let times = (any.number - k) / p in
    let below : rest < p = mod_below (any.number - k) p some in
    let split : times * p + rest ≡ any.number - k = div-add-mod' (any.number - k) p in
    let number : (k + rest) + times * p ≡ any.number = omega (arith, split, any.first) in
    any_holds test k p (k + rest) (omega arith) (omega (arith, below))
    (sym (many test p again times (k + rest)) ∙ (ap test number ∙ any.holds))

any_wider : (test : ℕ → Bool) (k p n : ℕ) → p ≤ n → any_from test k p ≡ true → any_from test k n ≡ true
any_wider test k p n le e =
    let any = any_tells test k p e in
    any_holds test k n any.number any.first (omega (arith, any.last, le)) any.holds

same_truth : (a b : Bool) → (a ≡ true → b ≡ true) → (b ≡ true → a ≡ true) → a ≡ b
same_truth true true f g = refl
same_truth false false f g = refl
same_truth true false f g = sym (f refl)
same_truth false true f g = g refl

pub period_tells : (p : Point) (inst : Instance) (e first last tried : ℕ) → PointRepeats (2 ^ e) p → tried ≡ min last (first + (2 ^ e - 1))
    → any_from (facts_inside inst p) first (suc tried - first) ≡ any_from (facts_inside inst p) first (suc last - first)
period_tells p inst e first last tried r is = by_case (nat_lt (first + (2 ^ e - 1)) last) refl
  where
    by_case : (t : Bool) → nat_lt (first + (2 ^ e - 1)) last ≡ t
        → any_from (facts_inside inst p) first (suc tried - first) ≡ any_from (facts_inside inst p) first (suc last - first)
    by_case true h =
        let some = pow_pos e in
        let before : first + (2 ^ e - 1) < last = grind (arith, nat_tests) in
        let size : suc tried - first ≡ 2 ^ e = omega (arith, some, before, is) in
        let wide : 2 ^ e ≤ suc last - first = omega (arith, some, before) in
        ap (any_from (facts_inside inst p) first) size
        ∙ same_truth _ _ (any_wider (facts_inside inst p) first (2 ^ e) (suc last - first) wide)
        (any_first (facts_inside inst p) (2 ^ e) first (suc last - first) some (λ c. facts_again p inst (2 ^ e) c r))
    by_case false h =
        let after : last ≤ first + (2 ^ e - 1) = grind (arith, nat_tests) in
        let all : tried ≡ last = omega (arith, after, is) in
        ap (λ t. any_from (facts_inside inst p) first (suc t - first)) all
