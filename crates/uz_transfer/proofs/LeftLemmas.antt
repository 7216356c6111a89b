-- A register that isn't there takes no range; X, Y and Z are below R31.
use Rattle.std.proofs.Common.{◌≡◌, ℕ, zero, suc, ◌<◌, ◌≤◌, true, List, [], ◌∷◌, length, refl, ap, arith}
use Rattle.std.proofs.lemmas.Bool.Decides.{nat_tests}
use Rattle.std.specs.Prelude.{slice_set}
use Rattle.uz_transfer.specs.Values.{is_pointer}

pub set_past : {A : Type 0} (xs : List A) (d : ℕ) (x : A) → length xs ≤ d → xs ≡ slice_set xs d x
set_past [] d x h = refl
set_past (y ∷ xs) zero x h = absurd (omega (arith, h))
set_past (y ∷ xs) (suc d) x h = ap (λ l. y ∷ l) (set_past xs d x (omega (arith, h)))

pub pointer_below : (d : ℕ) → is_pointer d ≡ true → (26 ≤ d) × (d < 31)
pointer_below d h = (grind (arith, nat_tests), grind (arith, nat_tests))
