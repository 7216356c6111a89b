-- What a search keeps of the instances that it has reached.
use Rattle.std.specs.Prelude.{◌≡◌, ◌⊎◌, ℕ, List, [], ◌∷◌, ◌++◌, Option, Some, length, slice_get}
use Rattle.uz_schedule.specs.declared.states.Instance.{Instance}
use Rattle.uz_search.specs.declared.program.Program.{Program}
use Rattle.uz_search.specs.Following.{Among, Flash}
use Rattle.uz_search.specs.Trails.{CameFrom, AreParents, ComeEarlier}

-- the instance goes last with its parent, unless it is there
abbrev pub Adds : List Instance → List (Option ℕ) → Instance → Option ℕ → List Instance → List (Option ℕ) → Type 0
Adds nodes parents item parent nodes' parents' =
    (Among nodes item × (nodes' ≡ nodes) × (parents' ≡ parents))
    ⊎ ((nodes' ≡ nodes ++ item ∷ []) × (parents' ≡ parents ++ parent ∷ []))

-- the parents of a list of instances: as many, each earlier, and each what its child follows
pub record IsTree (image : Flash) (p : Program) (nodes : List Instance) (parents : List (Option ℕ)) : Type 0 where
  pub lengths : length parents ≡ length nodes
  pub earlier : ComeEarlier parents
  pub are : AreParents image p nodes parents

-- the instances stay in their places
abbrev pub Extends : List Instance → List Instance → Type 0
Extends old new = (i : ℕ) (x : Instance) → slice_get old i ≡ Some x → slice_get new i ≡ Some x

-- each of these came from this parent, or is a start
abbrev pub ComeFrom : Flash → Program → List Instance → Option ℕ → List Instance → Type 0
ComeFrom image p nodes parent items = (k : ℕ) (y : Instance) → slice_get items k ≡ Some y → CameFrom image p nodes parent y

-- the instances of a list are added, whatever their parent
pub record AddsAll (image : Flash) (p : Program) (nodes items nodes' : List Instance) (parents' : List (Option ℕ)) : Type 0 where
  pub extends : Extends nodes nodes'
  pub tree : IsTree image p nodes' parents'
  pub there : (k : ℕ) (y : Instance) → slice_get items k ≡ Some y → Among nodes' y
