-- Periods by how many numbers at the end of a list are the same.
use Rattle.std.proofs.Common.{◌≡◌, ℕ, ◌+◌, ◌-◌, ◌/◌, ◌≤◌, ◌<◌, List, length, arith, Bool, true, false, refl, subst}
use Rattle.std.proofs.lemmas.Bool.{ltb-true, ltb-false}
use Rattle.std.proofs.Math.Dec.{ltb}
use Rattle.uz_proposal.specs.Periods.{IsPeriod, IsSameAtEnd, Repeats}

by_test : (m n : ℕ) (less : Bool) → ltb n m ≡ less → (n < m → ⊥) → m ≤ n
by_test m n true e never = absurd (never (ltb-true n m e))
by_test m n false e never = ltb-false n m e

-- where numbers come again from a place on, they are the same from there to the end
pub same_from : (keys : List ℕ) (apart same from : ℕ) → IsSameAtEnd keys apart same → Repeats keys apart from
    → length keys ≤ from + apart + same
same_from keys apart same from is again =
    by_test (length keys) (from + apart + same) _ refl
    (λ few. is.differs (omega (arith, few)) (again (length keys - apart - 1 - same) (omega (arith, few)) (omega (arith, few))))

none_here : (keys : List ℕ) (apart same from : ℕ) → IsSameAtEnd keys apart same
    → (length keys ≤ from + apart + same → from + apart + apart ≤ length keys → from + length keys / 2 ≤ length keys → ⊥)
    → IsPeriod keys apart from → ⊥
none_here keys apart same from is few p = few (same_from keys apart same from is p.repeats) p.twice p.half

-- the next number is the least that may be a period, where too few are the same for this one
pub further : (keys : List ℕ) (apart same lines from : ℕ) → apart ≤ lines → IsSameAtEnd keys apart same
    → (length keys ≤ from + apart + same → from + apart + apart ≤ length keys → from + length keys / 2 ≤ length keys → ⊥)
    → IsPeriod keys lines from → apart + 1 ≤ lines
further keys apart same lines from least is few period =
    by_test (apart + 1) lines _ refl (λ less. none_here keys apart same from is few
    (subst (λ n. IsPeriod keys n from) (omega (arith, less, least)) period))
