-- When points say what instances of a search say, and nothing else.
use Rattle.std.specs.Prelude.{◌≡◌, ◌≤◌, ℕ, pos, ◌+ℤ◌, ◌*ℤ◌, true, List, Some, slice_get}
use Rattle.uz_schedule.specs.Instances.{instance_of, is_in_box}
use Rattle.uz_schedule.specs.declared.states.Instance.{Instance}
use Rattle.uz_schedule.specs.declared.states.Point.{Point}

-- the point has line l and count c, and the instance is the point's there, at the point's clock and whatever its level of sync
pub record IsSaid (q : Point) (l c : ℕ) (x : Instance) : Type 0 where
  pub box : is_in_box q l c ≡ true
  pub line : x.line ≡ l
  pub clock : pos x.clock ≡ pos q.clock +ℤ q.slope *ℤ pos c
  pub is : x ≡ instance_of q l c x.clock x.level

-- Parts of it
pub record SaidPlace (q : Point) (l c : ℕ) (x : Instance) : Type 0 where
  pub box : is_in_box q l c ≡ true
  pub place : (x.line ≡ l) × (pos x.clock ≡ pos q.clock +ℤ q.slope *ℤ pos c)

-- the point of this number says at the count c what the instance says
pub record SaidAt (points : List Point) (n c : ℕ) (x : Instance) : Type 0 where
  pub point : Point
  pub there : slice_get points n ≡ Some point
  pub said : IsSaid point x.line c x

-- by place the number of the point that says what the instance says, and the count
pub record SaidBy (points : List Point) (numbers counts : List ℕ) (i : ℕ) (x : Instance) : Type 0 where
  pub number : ℕ
  pub count : ℕ
  pub numbered : slice_get numbers i ≡ Some number
  pub counted : slice_get counts i ≡ Some count
  pub said : SaidAt points number count x

-- each instance is said so
abbrev pub AreSaid : List Point → List ℕ → List ℕ → List Instance → Type 0
AreSaid points numbers counts nodes = (i : ℕ) (x : Instance) → slice_get nodes i ≡ Some x → SaidBy points numbers counts i x

-- points and the instances that they say
pub record Coverage : Type 0 where
  pub points : List Point
  pub nodes : List Instance

-- the instance at a place stands on this line
pub record IsOnLine (nodes : List Instance) (i l : ℕ) : Type 0 where
  pub instance : Instance
  pub there : slice_get nodes i ≡ Some instance
  pub line : instance.line ≡ l

-- what the point says at line l and count c is one of these instances
pub record IsSaidBack (nodes : List Instance) (q : Point) (l c : ℕ) : Type 0 where
  pub place : ℕ
  pub instance : Instance
  pub there : slice_get nodes place ≡ Some instance
  pub said : IsSaid q l c instance

-- so it is at each line and count of the point's box
abbrev pub IsSaidOver : List Instance → Point → Type 0
IsSaidOver nodes q = (l c : ℕ) → q.l0 ≤ l → l ≤ q.l1 → q.c0 ≤ c → c ≤ q.c1 → IsSaidBack nodes q l c

-- and of each point
abbrev pub AreSaidBack : List Instance → List Point → Type 0
AreSaidBack nodes points = (n : ℕ) (q : Point) → slice_get points n ≡ Some q → IsSaidOver nodes q

-- each of these instances is said by one of the points at the instance's line and some count, and what a point says at a line and a count
-- is one of these instances
pub record SaysInstances (nodes : List Instance) (points : List Point) : Type 0 where
  pub all : (i : ℕ) (x : Instance) → slice_get nodes i ≡ Some x → (n : ℕ) × (c : ℕ) × SaidAt points n c x
  pub only : AreSaidBack nodes points
