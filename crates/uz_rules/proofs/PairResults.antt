-- What SBIW tells: its flags are those of the pair less the constant.
use Rattle.uz_rules.proofs.Common.{value_stays, ◌≡◌, ℕ, zero, suc, ◌+◌, ◌-◌, ◌*◌, ◌/◌, ◌%◌, ◌<◌, ◌≤◌, Bool, true, false, not, Some, nat_eq}
use Rattle.uz_rules.proofs.Common.{nat_lt, nat_le, refl, sym, ap, ◌∙◌, subst, arith, ◌&&◌, pos, ◌-ℤ◌, nat_tests, ints, AluResult, bit_value}
use Rattle.uz_rules.proofs.Common.{bit_is_set, exclusive_or, signed, overflows, difference_of, chained_result, pair_difference_of}
use Rattle.uz_rules.proofs.Common.{pair_result, Core, pair, with_pair, with_flags, IsCore, bit_of_merged, or_kept, Ends, PairResult}
use Rattle.uz_rules.proofs.Common.{IsWithin, ComparedHolds}
use Rattle.uz_range.specs.Flags.{flag_after}
use Rattle.uz_rules.proofs.CoreKeeps.{pair_word}
use Rattle.uz_rules.proofs.CoreSteps.{pair_is}

-- a byte h less a borrow c
abbrev high_byte : ℕ → ℕ → ℕ
high_byte h c = (h + 512 - (0 + c)) % 256

-- of a number less k, by its bytes l and h, where the low ones borrow c
record Borrows (l h k c : ℕ) : Type 0 where
  low : l < 256
  high : h < 256
  few : k < 64
  bit : c ≤ 1
  is : 256 * c + l ≡ k + (l + 256 * c - k)
  rest : l + 256 * c - k < 256

value_of : (l h k c : ℕ) → Borrows l h k c → (l + 256 * h + 65536 - k) % 65536 ≡ l + 256 * c - k + 256 * high_byte h c
value_of l h k c b = let p = b.low in let q = b.high in let f = b.few in let t = b.bit in let i = b.is in let r = b.rest in omega arith

over_low : (x c : ℕ) → x < 128 → c ≤ 1 → overflows (pos x -ℤ pos 0 -ℤ pos c) ≡ false
over_low x c hx hc = grind (arith, ints)

over_high : (x c : ℕ) → 128 ≤ x → x < 256 → c ≤ 1 → overflows ((pos x -ℤ pos 256) -ℤ pos 0 -ℤ pos c) ≡ nat_lt x (c + 128)
over_high x c hx wx hc = grind (arith, ints, nat_tests)

carry_is : (v l h k c : ℕ) → Borrows l h k c → v ≡ l + 256 * c - k + 256 * high_byte h c
    → (nat_le 32768 v && not (nat_le 32768 (l + 256 * h))) ≡ nat_lt h (0 + c)
carry_is v l h k c b e =
    let p = b.low in let q = b.high in let f = b.few in let t = b.bit in let i = b.is in let r = b.rest in grind (arith, nat_tests)

negative_is : (v l h k c : ℕ) → Borrows l h k c → v ≡ l + 256 * c - k + 256 * high_byte h c → nat_le 32768 v ≡ nat_le 128 (high_byte h c)
negative_is v l h k c b e = let r = b.rest in grind (arith, nat_tests)

overflow_is : (v l h k c : ℕ) → Borrows l h k c → v ≡ l + 256 * c - k + 256 * high_byte h c
    → (nat_le 32768 (l + 256 * h) && not (nat_le 32768 v)) ≡ overflows (signed h -ℤ signed 0 -ℤ pos c)
overflow_is v l h k c b e = by_case (nat_lt h 128) refl
  where
    by_case : (t : Bool) → nat_lt h 128 ≡ t
        → (nat_le 32768 (l + 256 * h) && not (nat_le 32768 v)) ≡ overflows (signed h -ℤ pos 0 -ℤ pos c)
    by_case true low =
        let p = b.low in let few : h < 128 = grind (arith, nat_tests) in
        let below : nat_le 32768 (l + 256 * h) ≡ false = grind (arith, nat_tests) in
        rw (low, over_low h c few b.bit, below) refl
    by_case false high =
        let p = b.low in let q = b.high in let f = b.few in let t = b.bit in let i = b.is in let r = b.rest in
        let many : 128 ≤ h = grind (arith, nat_tests) in
        let above : nat_le 32768 (l + 256 * h) ≡ true = grind (arith, nat_tests) in
        let last : not (nat_le 32768 v) ≡ nat_lt h (c + 128) = grind (arith, nat_tests) in
        rw (high, over_high h c many b.high b.bit, above) last

zero_is : (v l h k c : ℕ) → Borrows l h k c → v ≡ l + 256 * c - k + 256 * high_byte h c → l + 256 * c - k ≡ 0
    → nat_eq v 0 ≡ nat_eq (high_byte h c) 0
zero_is v l h k c b e none = grind (arith, nat_tests)

nonzero_is : (v l h k c : ℕ) → v ≡ l + 256 * c - k + 256 * high_byte h c → 1 ≤ l + 256 * c - k → nat_eq v 0 ≡ false
nonzero_is v l h k c e some = grind (arith, nat_tests)

-- a result v of a number y less a constant
abbrev result_at : ℕ → ℕ → AluResult
result_at v y = pair_result v (nat_le 32768 v && not (nat_le 32768 y)) (nat_le 32768 y && not (nat_le 32768 v))

-- each of the flags C, Z, N, V and S
alike : (v l h k c : ℕ) (t z : Bool) → Borrows l h k c → v ≡ l + 256 * c - k + 256 * high_byte h c → bit_value t ≡ c
    → nat_eq (l + 256 * c - k) 0 ≡ z → (j : ℕ) → j < 5
    → flag_after (result_at v (l + 256 * h)) j ≡ flag_after (chained_result (difference_of h 0 t) z) j
alike v l h k c t z b e bit zeros j few = by_zero z zeros j few
  where
    carry : (nat_le 32768 v && not (nat_le 32768 (l + 256 * h))) ≡ nat_lt h (0 + bit_value t)
    carry = carry_is v l h k c b e ∙ ap (λ n. nat_lt h (0 + n)) (sym bit)

    negative : nat_le 32768 v ≡ nat_le 128 (high_byte h (bit_value t))
    negative = negative_is v l h k c b e ∙ ap (λ n. nat_le 128 (high_byte h n)) (sym bit)

    overflow : (nat_le 32768 (l + 256 * h) && not (nat_le 32768 v)) ≡ overflows (signed h -ℤ signed 0 -ℤ pos (bit_value t))
    overflow = overflow_is v l h k c b e ∙ ap (λ n. overflows (signed h -ℤ signed 0 -ℤ pos n)) (sym bit)

    by_zero : (z : Bool) → nat_eq (l + 256 * c - k) 0 ≡ z → (j : ℕ) → j < 5
        → flag_after (result_at v (l + 256 * h)) j ≡ flag_after (chained_result (difference_of h 0 t) z) j
    by_zero true is zero few = ap (λ x. Some x) carry
    by_zero true is (suc zero) few =
        let none : l + 256 * c - k ≡ 0 = grind (arith, nat_tests) in
        ap (λ x. Some x) (zero_is v l h k c b e none ∙ ap (λ n. nat_eq (high_byte h n) 0) (sym bit))
    by_zero true is (suc (suc zero)) few = ap (λ x. Some x) negative
    by_zero true is (suc (suc (suc zero))) few = ap (λ x. Some x) overflow
    by_zero true is (suc (suc (suc (suc zero)))) few = λ i. Some (exclusive_or (negative i) (overflow i))
    by_zero false is zero few = ap (λ x. Some x) carry
    by_zero false is (suc zero) few =
        let some : 1 ≤ l + 256 * c - k = grind (arith, nat_tests) in
        ap (λ x. Some x) (nonzero_is v l h k c e some)
    by_zero false is (suc (suc zero)) few = ap (λ x. Some x) negative
    by_zero false is (suc (suc (suc zero))) few = ap (λ x. Some x) overflow
    by_zero false is (suc (suc (suc (suc zero)))) few = λ i. Some (exclusive_or (negative i) (overflow i))
    by_zero z is (suc (suc (suc (suc (suc j))))) few = absurd (omega arith)

-- the pair and its flags, where the low bytes borrow as t says, and their difference is 0 as z says
record TellsBy (x k : ℕ) (t z : Bool) : Type 0 where
  value : (x + 65536 - k) % 65536 ≡ (x % 256 + 512 - (k % 256 + 0)) % 256 + 256 * (chained_result (difference_of (x / 256) (k / 256) t)
      z).value
  flags : (j : ℕ) → j < 5 → flag_after (pair_difference_of x k) j ≡ flag_after (chained_result (difference_of (x / 256) (k / 256) t) z) j

tells_by : (x k c : ℕ) (t z : Bool) → Borrows (x % 256) (x / 256) k c → bit_value t ≡ c → nat_eq (x % 256 + 256 * c - k) 0 ≡ z
    → TellsBy x k t z
tells_by x k c t z b bit zeros =
    let l : ℕ = x % 256 in
    let h : ℕ = x / 256 in
    let few = b.few in
    let high : k / 256 ≡ 0 = omega (arith, few) in
    let whole : l + 256 * h ≡ x = omega arith in
    let low : (l + 512 - (k % 256 + 0)) % 256 ≡ l + 256 * c - k = low_value l k c b.low few b.bit b.is b.rest in
    let v : (x + 65536 - k) % 65536 ≡ l + 256 * c - k + 256 * high_byte h c =
    ap (λ n. (n + 65536 - k) % 65536) (sym whole) ∙ value_of l h k c b in
    let top : high_byte h c ≡ (chained_result (difference_of h (k / 256) t) z).value =
    ap (λ n. (h + 512 - (0 + n)) % 256) (sym bit) ∙ ap (λ n. (h + 512 - (n + bit_value t)) % 256) (sym high)
    ∙ sym (value_stays (difference_of h (k / 256) t) z) in
    record {
      value = v ∙ (λ i. sym low i + 256 * top i);
      flags = λ j w. subst (λ y. flag_after (result_at ((x + 65536 - k) % 65536) y) j ≡ flag_after (chained_result (difference_of h (k / 256)
          t) z) j) whole
          (subst (λ m. flag_after (result_at ((x + 65536 - k) % 65536) (l + 256 * h)) j ≡ flag_after (chained_result (difference_of h m t)
          z) j) (sym high) (alike ((x + 65536 - k) % 65536) l h k c t z b v bit zeros j w));
    }
  where
    low_value : (l k c : ℕ) → l < 256 → k < 64 → c ≤ 1 → 256 * c + l ≡ k + (l + 256 * c - k) → l + 256 * c - k < 256
        → (l + 512 - (k % 256 + 0)) % 256 ≡ l + 256 * c - k
    low_value l k c p few bit is rest = omega arith

tells : (x k : ℕ) → x < 65536 → k < 64
    → TellsBy x k (nat_lt (x % 256) (k % 256 + 0)) (nat_eq ((x % 256 + 512 - (k % 256 + 0)) % 256) 0)
tells x k hx hk = by_case (nat_lt (x % 256) (k % 256 + 0)) refl
  where
    by_case : (t : Bool) → nat_lt (x % 256) (k % 256 + 0) ≡ t → TellsBy x k t (nat_eq ((x % 256 + 512 - (k % 256 + 0)) % 256) 0)
    by_case true e =
        let same : k % 256 + 0 ≡ k = omega (arith, hk) in
        let less : x % 256 < k = (let f : nat_lt (x % 256) k ≡ true = ap (nat_lt (x % 256)) (sym same) ∙ e in grind (arith, nat_tests)) in
        tells_by x k 1 true _ (record {
          low = omega arith;
          high = omega (arith, hx);
          few = hk;
          bit = omega arith;
          is = omega (arith, less, hk);
          rest = omega (arith, less);
        }) refl (ap (λ n. nat_eq n 0) (omega (arith, less, hk)))
    by_case false e =
        let same : k % 256 + 0 ≡ k = omega (arith, hk) in
        let most : k ≤ x % 256 = (let f : nat_lt (x % 256) k ≡ false = ap (nat_lt (x % 256)) (sym same) ∙ e in grind (arith, nat_tests)) in
        tells_by x k 0 false _ (record {
          low = omega arith;
          high = omega (arith, hx);
          few = hk;
          bit = omega arith;
          is = omega (arith, most, hk);
          rest = omega arith;
        }) refl (ap (λ n. nat_eq n 0) (omega (arith, most, hk)))

pub pair_subtract_tells : (d k : ℕ) (old : Ends) (s : Core) → IsCore s → d < 31 → k < 64 → IsWithin (pair s d) old
    → ComparedHolds (PairResult d k old)
    (with_flags (pair_difference_of (pair s d) k) (with_pair d (pair_difference_of (pair s d) k).value s))
pair_subtract_tells d k old s c hd hk hx =
    let told = tells (pair s d) k (pair_word s d c) hk in (
      hd,
      omega (arith, hk),
      (
        pair s d,
        pair_word s d c,
        hx,
        pair_is s d (pair_difference_of (pair s d) k).value c hd (omega arith) ∙ told.value,
        λ j b few e. bit_of_merged (pair_difference_of (pair s d) k).flags s.sreg j
            ∙ ap (λ o. or_kept o (bit_is_set s.sreg j)) (told.flags j few ∙ e),
      ),
    )
