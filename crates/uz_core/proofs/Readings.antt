-- What is read at each word of a flash.
use Rattle.std.proofs.Common.{◌≡◌, ℕ, zero, suc, List, [], ◌∷◌, ◌++◌, length, Some, sym, subst}
use Rattle.std.proofs.lemmas.Option.{none-some, same_Some}
use Rattle.std.specs.Prelude.{slice_get}
use Rattle.std.specs.Ordering.{nat_cmp}
use Rattle.std.specs.FinMap.{FinMap}
use Rattle.uz_core.specs.declared.decoded.Reading.{Reading}
use Rattle.uz_core.specs.Programs.{IsReading, AreReadings}

at_end : {X : Type 0} → (P : ℕ → X → Type 0) (xs : List X) (x : X) → ((k : ℕ) (y : X) → slice_get xs k ≡ Some y → P k y) → P (length xs) x
    → (k : ℕ) (y : X) → slice_get (xs ++ x ∷ []) k ≡ Some y → P k y
at_end P [] x f p zero y e = subst (P zero) (same_Some x y e) p
at_end P [] x f p (suc k) y e = absurd (none-some y e)
at_end P (z ∷ xs) x f p zero y e = f zero y e
at_end P (z ∷ xs) x f p (suc k) y e = at_end (λ n. P (suc n)) xs x (λ n. f (suc n)) p k y e

pub appended : (image : FinMap nat_cmp ℕ) (readings : List Reading) (at : ℕ) (reading : Reading) →
    length readings ≡ at → AreReadings image readings → IsReading image at reading → AreReadings image (readings ++ reading ∷ [])
appended image readings at reading n all r = at_end (IsReading image) readings reading all (subst (λ k. IsReading image k reading) (sym n)
    r)
