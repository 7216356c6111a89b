-- Why no certificate is found: what each refusal shows.
use Rattle.std.specs.Prelude.{◌≡◌, ◌≢◌, ◌⊎◌, ⊤, ℕ, false, List, Option, Some, Ok, length, slice_get}
use Rattle.uz_schedule.specs.declared.states.Instance.{Instance}
use Rattle.uz_schedule.specs.declared.kinds.Kind.TheVariants.{Main}
use Rattle.uz_schedule.specs.declared.lines.EventKind.{EventKind}
use Rattle.uz_rules.specs.declared.next.Next.{Next}
use Rattle.uz_search.specs.declared.found.NotFound.{NotFound}
use Rattle.uz_search.specs.declared.found.NotFound.TheVariants.{Stuck, Split as SplitAnswer, Full, Hint, NoRest, Memory}
use Rattle.uz_search.specs.declared.program.Program.{Program}
use Rattle.uz_search.specs.Following.{Among, Flash, After, Follows, Shows, ReturnsTo}
use Rattle.uz_search.specs.Trails.{IsTrail, OnTrail}
use Rattle.uz_search.specs.Stuck.{IsStuck}

-- two instances pass one position of the frame, and show otherwise there: one shows an event that the other doesn't
abbrev pub ShowApart : Flash → Program → Instance → Instance → Type 0
ShowApart image p a b = (y : ℕ) × (d : Option EventKind) × (e : Option EventKind) × Shows image p a y d × Shows image p b y e × (d ≢ e)

-- two instances return on one line at different clocks or with different cells
abbrev pub ReturnApart : Flash → Program → Instance → Instance → Type 0
ReturnApart image p a b = (x : Instance) × (y : Instance) × ReturnsTo image p a x × ReturnsTo image p b y × (x.line ≡ y.line)
    × ((x.clock ≡ y.clock) × (x.cells ≡ y.cells) → ⊥)

abbrev pub Split : Flash → Program → Instance → Instance → Type 0
Split image p a b = ShowApart image p a b ⊎ ReturnApart image p a b

-- no instance stands in the list twice
abbrev pub AreDistinct : List Instance → Type 0
AreDistinct list = (i j : ℕ) (x : Instance) → slice_get list i ≡ Some x → slice_get list j ≡ Some x → i ≡ j

-- these are so many distinct instances, and each lies on a trail
pub record AreOnTrails (image : Flash) (p : Program) (count : ℕ) (list : List Instance) : Type 0 where
  pub length : length list ≡ count
  pub distinct : AreDistinct list
  pub on_trail : (x : Instance) → Among list x → OnTrail image p x

-- from a start in main: a list of so many distinct instances that holds the starts and what follows its members, and holds no return from
-- the handler and none that has no results
pub record ClosedWithoutReturn (image : Flash) (p : Program) (count : ℕ) : Type 0 where
  pub main : (s : Instance) × Among p.starts s × (s.kind ≡ Main)
  pub list : List Instance
  pub length : length list ≡ count
  pub distinct : AreDistinct list
  pub starts : (x : Instance) → Among p.starts x → Among list x
  pub closed : (x y : Instance) → Among list x → Follows image p x y → Among list y
  pub after : (x : Instance) → Among list x → (next : Next) × After image p x (Ok next) × (next.back ≡ false)

-- what a refusal of a search of this limit shows; want of memory shows nothing, and hints are no matter of the search
abbrev pub Refusal : Flash → Program → ℕ → NotFound → Type 0
Refusal image p limit (Stuck trail why) = (x : Instance) × IsTrail image p trail x × IsStuck image p x why
Refusal image p limit (SplitAnswer first second) = (a : Instance) × (b : Instance) × IsTrail image p first a × IsTrail image p second b
    × Split image p a b
Refusal image p limit (Full instances) = AreOnTrails image p limit instances
Refusal image p limit (Hint index) = ⊥
Refusal image p limit (NoRest count) = ClosedWithoutReturn image p count
Refusal image p limit Memory = ⊤
