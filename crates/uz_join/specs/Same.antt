-- When the instances of two lists of points are the same ones.
use Rattle.std.specs.Prelude.{◌≡◌, ◌≤◌, ℕ, pos, ◌+ℤ◌, ◌*ℤ◌, true, List, slice_get, Some}
use Rattle.uz_schedule.specs.Instances.{instance_in, is_in_box}
use Rattle.uz_schedule.specs.declared.lines.Schedule.{Schedule}
use Rattle.uz_schedule.specs.declared.states.Point.{Point}

-- at line l one point has at its count c what the other has at its count d, whatever the schedule
abbrev pub SameAt : Point → Point → ℕ → ℕ → ℕ → Type 0
SameAt p q l c d = (s : Schedule) → instance_in s p l c ≡ instance_in s q l d

-- Parts of it: both have line l and their count, at one clock
pub record SamePlace (p q : Point) (l c d : ℕ) : Type 0 where
  pub in_one : is_in_box p l c ≡ true
  pub in_other : is_in_box q l d ≡ true
  pub clock : pos p.clock +ℤ p.slope *ℤ pos c ≡ pos q.clock +ℤ q.slope *ℤ pos d

-- one of these points has what p has at line l and count c
pub record IsTold (points : List Point) (p : Point) (l c : ℕ) : Type 0 where
  pub number : ℕ
  pub point : Point
  pub count : ℕ
  pub there : slice_get points number ≡ Some point
  pub box : is_in_box point l count ≡ true
  pub same : SameAt p point l c count

-- so it is at each line and count of p's box
abbrev pub IsWhollyTold : List Point → Point → Type 0
IsWhollyTold points p = (l c : ℕ) → p.l0 ≤ l → l ≤ p.l1 → p.c0 ≤ c → c ≤ p.c1 → IsTold points p l c

-- and of each of these points: all that they say is said by those
abbrev pub AreTold : List Point → List Point → Type 0
AreTold points by = (id : ℕ) (p : Point) → slice_get points id ≡ Some p → IsWhollyTold by p

-- the instances of the two are the same
pub record SameInstances (a b : List Point) : Type 0 where
  pub all : AreTold a b
  pub only : AreTold b a
