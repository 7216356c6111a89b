-- How many instances a box has at most, and what ranges are left where no cell is.
use Rattle.std.proofs.Common.{◌≡◌, ℕ, zero, suc, ◌*◌, ◌≤◌, Bool, false, eqb, List, [], ◌∷◌, length, drop, refl, sym, ◌∙◌}
use Rattle.std.proofs.Common.{arith}
use Rattle.std.proofs.lemmas.Nat.{mul-le}
use Rattle.std.proofs.lemmas.Bool.Decides.{nat_tests}
use Rattle.std.specs.Prelude.{filter}
use Rattle.uz_schedule.specs.declared.header.Cell.{Cell}
use Rattle.uz_schedule.specs.Ends.{Ends}
use Rattle.uz_schedule.specs.WellFormed.{spans_fit}

pub product_few : (a b : ℕ) → a ≤ 65536 → b ≤ 256 → a * b ≤ 16777216
product_few a b h k = mul-le a b 65536 256 h k

-- without a cell there may be no range
pub spans_left : (spans : List Ends) (n : ℕ) → n ≤ length spans → spans_fit [] (drop n spans) ≡ eqb n (length spans)
spans_left [] zero h = refl
spans_left [] (suc n) h = absurd (omega (arith, h))
spans_left (e ∷ spans) zero h = sym (some (length spans))
  where
    some : (n : ℕ) → eqb 0 (suc n) ≡ false
    some n = grind (arith, nat_tests)
spans_left (e ∷ spans) (suc n) h = spans_left spans n (omega (arith, h)) ∙ same n (length spans)
  where
    same : (a b : ℕ) → eqb a b ≡ eqb (suc a) (suc b)
    same a b = grind (arith, nat_tests)

-- past the last cell
pub cells_end : (test : Cell → Bool) (cells : List Cell) (spans : List Ends) (i : ℕ) → length cells ≤ i
    → spans_fit (filter test (drop i cells)) spans ≡ spans_fit [] spans
cells_end test [] spans zero h = refl
cells_end test [] spans (suc i) h = refl
cells_end test (c ∷ cells) spans zero h = absurd (omega (arith, h))
cells_end test (c ∷ cells) spans (suc i) h = cells_end test cells spans i (omega (arith, h))
