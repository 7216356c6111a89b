-- Trails: lists of instances of which the first is a start of the search, and each later one follows the one before it.
use Rattle.std.specs.Prelude.{◌≡◌, ℕ, ◌<◌, ⊤, List, [], ◌∷◌, Option, Some, None, slice_get}
use Rattle.uz_schedule.specs.declared.states.Instance.{Instance}
use Rattle.uz_search.specs.declared.program.Program.{Program}
use Rattle.uz_search.specs.Following.{Among, Flash, Follows}

-- the last instance
abbrev pub last_of : List Instance → Option Instance
last_of [] = None
last_of (x ∷ []) = Some x
last_of (x ∷ y ∷ rest) = last_of (y ∷ rest)

-- each later one follows the one before it
abbrev pub Leads : Flash → Program → List Instance → Type 0
Leads image p [] = ⊤
Leads image p (x ∷ []) = ⊤
Leads image p (x ∷ y ∷ rest) = Follows image p x y × Leads image p (y ∷ rest)

-- a trail to this instance
pub record IsTrail (image : Flash) (p : Program) (trail : List Instance) (to : Instance) : Type 0 where
  pub first : Instance
  pub begins : slice_get trail 0 ≡ Some first
  pub start : Among p.starts first
  pub leads : Leads image p trail
  pub ends : last_of trail ≡ Some to

-- the instance lies on a trail
abbrev pub OnTrail : Flash → Program → Instance → Type 0
OnTrail image p x = (trail : List Instance) × IsTrail image p trail x

-- Parents

-- where an instance came from: it is a start, or follows an instance that came earlier
abbrev pub CameFrom : Flash → Program → List Instance → Option ℕ → Instance → Type 0
CameFrom image p nodes None x = Among p.starts x
CameFrom image p nodes (Some n) x = (y : Instance) × (slice_get nodes n ≡ Some y) × Follows image p y x

-- each parent comes earlier in the list
abbrev pub ComeEarlier : List (Option ℕ) → Type 0
ComeEarlier parents = (i n : ℕ) → slice_get parents i ≡ Some (Some n) → n < i

-- what each instance came from, number by number
pub record AreParents (image : Flash) (p : Program) (nodes : List Instance) (parents : List (Option ℕ)) : Type 0 where
  pub each : (i : ℕ) (x : Instance) (parent : Option ℕ) → slice_get nodes i ≡ Some x → slice_get parents i ≡ Some parent → CameFrom image p
      nodes parent x
