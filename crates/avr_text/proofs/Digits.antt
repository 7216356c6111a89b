-- Digits that go past the limit.
use Rattle.std.proofs.Common.{◌≡◌, ℕ, zero, suc, ◌+◌, ◌*◌, ◌<◌, ◌≤◌, ◌^◌, List, [], ◌∷◌, arith, None}
use Rattle.std.proofs.lemmas.Bool.Decides.{nat_tests}
use Rattle.avr_text.specs.Numbers.{digit_worth, read_on, goes_on_to}

times-≥ : (n base : ℕ) → 0 < base → n ≤ n * base
times-≥ n zero h = absurd (omega arith)
times-≥ n (suc base) h = omega arith

pub read_on-≥ : (base n : ℕ) (bs : List ℕ) → 0 < base → n ≤ read_on base n bs
read_on-≥ base n [] h = omega arith
read_on-≥ base n (b ∷ bs) h = omega (arith, read_on-≥ base (n * base + digit_worth b) bs h, times-≥ n base h)

-- more digits don't make less
pub past_limit : (base n : ℕ) (bs : List ℕ) → 0 < base → 2 ^ 63 ≤ n → goes_on_to base n bs ≡ None
past_limit base n bs some h = let more = read_on-≥ base n bs some in grind (arith, nat_tests)
