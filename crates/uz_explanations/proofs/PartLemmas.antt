-- When two say the same.
use Rattle.std.proofs.Common.{◌≡◌, ◌≤◌, ◌<◌, ◌+◌, ◌*◌, ◌&&◌, ◌∙◌, ℕ, Bool, true, false, nat_eq, refl, sym, ap, arith, eqb}
use Rattle.std.proofs.lemmas.Bool.Decides.{nat_tests}
use Rattle.uz_schedule.specs.Ends.{Ends}
use Rattle.uz_schedule.specs.declared.facts.Bit.{Bit}
use Rattle.uz_schedule.specs.declared.facts.Bit.TheVariants as bits
use Rattle.uz_schedule.specs.contracts.facts.BitPartialEq as equality
use Rattle.uz_explanations.specs.Parts.{same_bit, same_ends}

pub bits_same : (a b : Bit) → (equality.TheImpl.ghosts).eq a b ≡ same_bit a b
bits_same bits.Zero bits.Zero = refl
bits_same bits.Zero bits.One = refl
bits_same bits.Zero bits.Free = refl
bits_same bits.Zero bits.Old = refl
bits_same bits.One bits.Zero = refl
bits_same bits.One bits.One = refl
bits_same bits.One bits.Free = refl
bits_same bits.One bits.Old = refl
bits_same bits.Free bits.Zero = refl
bits_same bits.Free bits.One = refl
bits_same bits.Free bits.Free = refl
bits_same bits.Free bits.Old = refl
bits_same bits.Old bits.Zero = refl
bits_same bits.Old bits.One = refl
bits_same bits.Old bits.Free = refl
bits_same bits.Old bits.Old = refl

-- two bytes as one number
pub ends_same : (a b c d : ℕ) → a ≤ 255 → c ≤ 255 → nat_eq (a + 256 * b) (c + 256 * d) ≡ (nat_eq a c && nat_eq b d)
ends_same a b c d low lower = by_case (nat_eq a c) (nat_eq b d) refl refl
  where
    by_case : (p q : Bool) → nat_eq a c ≡ p → nat_eq b d ≡ q → nat_eq (a + 256 * b) (c + 256 * d) ≡ (p && q)
    by_case true true e f = grind (arith, nat_tests, e, f)
    by_case true false e f = grind (arith, nat_tests, e, f)
    by_case false true e f = grind (arith, nat_tests, e, f)
    by_case false false e f = grind (arith, nat_tests, e, f, low, lower)
