-- Points one behind the other, each for itself or for others that are let go.
use Rattle.std.specs.Prelude.{◌≡◌, ℕ, ◌<◌, List, [], ◌∷◌, ◌++◌, Some, drop, reverse, slice_get}
use Rattle.uz_schedule.specs.declared.states.Point.{Point}
use Rattle.uz_join.specs.Same.{AreTold, IsWhollyTold}
use Rattle.uz_join.specs.declared.replacing.Replacing.{Replacing}

-- a point was put behind others, whatever it leads to
pub record IsPut (old new : List Point) (p : Point) : Type 0 where
  pub next : List ℕ
  pub is : new ≡ old ++ record p { next = record { items = next } } ∷ []

-- so many of these points are said by the joined ones, and the others are left; what joined points say, these say
pub record AreSoFar (points : List Point) (i : ℕ) (r : Replacing) : Type 0 where
  pub left : reverse r.left.items ≡ drop i points
  pub told : (j : ℕ) (p : Point) → j < i → slice_get points j ≡ Some p → IsWhollyTold r.joined.items p
  pub only : AreTold r.joined.items points
