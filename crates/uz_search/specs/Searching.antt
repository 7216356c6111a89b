-- What a search keeps, and what it shows where it stops.
use Rattle.std.specs.Prelude.{◌≡◌, ◌≢◌, ◌⊎◌, ⊤, ℕ, ◌<◌, true, List, Option, Some, None, Ok, length, slice_get}
use Rattle.uz_schedule.specs.declared.states.Instance.{Instance}
use Rattle.uz_schedule.specs.declared.kinds.Kind.TheVariants.{Main}
use Rattle.uz_schedule.specs.declared.lines.EventKind.{EventKind}
use Rattle.uz_transfer.specs.declared.fail.Fail.{Fail}
use Rattle.uz_rules.specs.declared.next.Next.{Next}
use Rattle.uz_search.specs.declared.examination.Stop.{Stop}
use Rattle.uz_search.specs.declared.examination.Stop.TheVariants as stops
use Rattle.uz_search.specs.declared.found.Found.{Found}
use Rattle.uz_search.specs.declared.marks.Mark.{Mark}
use Rattle.uz_search.specs.declared.marks.Shown.{Shown}
use Rattle.uz_search.specs.declared.program.Program.{Program}
use Rattle.uz_search.specs.declared.returns.Return.{Return}
use Rattle.uz_search.specs.Following.{Among, Flash, After, followers_of, frame_of, lines_of, most_clocks, Passing, Shows, ReturnsTo}
use Rattle.uz_search.specs.Marking.{Seen, SeenOnWay, KeepsMarks}
use Rattle.uz_search.specs.Returning.{ReturnAt, IsReturnOf, Noted, KeepsReturns}
use Rattle.uz_search.specs.Stuck.{StuckWith, IsStuck}
use Rattle.uz_search.specs.Refusing.{ShowApart, Split}
use Rattle.uz_search.specs.Visiting.{IsTree}

-- the search has asked the instance, and has all that follows it
pub record Treated (image : Flash) (p : Program) (nodes : List Instance) (marks : List Mark) (returns : List (Option Return))
    (x : Instance) : Type 0 where
  pub next : Next
  pub after : After image p x (Ok next)
  -- of main no result may be left
  pub some : x.kind ≢ Main → (y : Instance) × (slice_get next.out.items 0 ≡ Some y)
  pub clear : (why : Fail) → StuckWith image p x next why → ⊥
  pub seen : x.kind ≢ Main → SeenOnWay p x (most_clocks p x next.out.items) next.emit marks
  pub noted : next.back ≡ true → (end : Instance) → slice_get next.out.items 0 ≡ Some end → Noted returns end
  pub follow : (y : Instance) → Among (followers_of p x next) y → Among nodes y

-- one of the first instances, of this number, shows this at a position
pub record ShownBefore (image : Flash) (p : Program) (nodes : List Instance) (done y : ℕ) (e : Option EventKind) : Type 0 where
  pub number : ℕ
  pub below : number < done
  pub x : Instance
  pub there : slice_get nodes number ≡ Some x
  pub shows : Shows image p x y e

-- each mark is of one of the first instances, of this number
abbrev pub AreMarked : Flash → Program → List Instance → List Mark → ℕ → Type 0
AreMarked image p nodes marks done = (y : ℕ) (e : Option EventKind) → Seen marks y e → ShownBefore image p nodes done y e

-- each return is of an instance that is there
abbrev pub AreNoted : Flash → Program → List Instance → List (Option Return) → Type 0
AreNoted image p nodes returns = (line : ℕ) (r : Return) → ReturnAt returns line r → (x : Instance) × (end : Instance)
    × (slice_get nodes r.by ≡ Some x) × ReturnsTo image p x end × (line ≡ end.line) × IsReturnOf r end

-- the search so far: the first instances, of this number, are treated
pub record IsSearch (image : Flash) (p : Program) (nodes : List Instance) (parents : List (Option ℕ)) (marks : List Mark)
    (returns : List (Option Return)) (done : ℕ) : Type 0 where
  pub tree : IsTree image p nodes parents
  pub started : (y : Instance) → Among p.starts y → Among nodes y
  pub marked : AreMarked image p nodes marks done
  pub ended : AreNoted image p nodes returns
  pub frame : length marks ≡ frame_of p
  pub lines : length returns ≡ lines_of p
  pub treated : (i : ℕ) (x : Instance) → i < done → slice_get nodes i ≡ Some x → Treated image p nodes marks returns x

abbrev pub IsSearchOf : Flash → Program → Found → ℕ → Type 0
IsSearchOf image p s done = IsSearch image p s.nodes.keys s.parents.items s.marks.items s.returns.items done

-- the search is at its end: every instance is treated
abbrev pub IsEnded : Flash → Program → Found → Type 0
IsEnded image p s = IsSearchOf image p s (length s.nodes.keys)

-- What one instance's treatment leaves of the marks and the returns

pub record Treats (image : Flash) (p : Program) (x : Instance) (by : ℕ) (marks marks' : List Mark)
    (returns returns' : List (Option Return)) (next : Next) : Type 0 where
  pub after : After image p x (Ok next)
  -- of main no result may be left
  pub some : x.kind ≢ Main → (y : Instance) × (slice_get next.out.items 0 ≡ Some y)
  pub clear : (why : Fail) → StuckWith image p x next why → ⊥
  pub seen : x.kind ≢ Main → SeenOnWay p x (most_clocks p x next.out.items) next.emit marks'
  pub noted : next.back ≡ true → (end : Instance) → slice_get next.out.items 0 ≡ Some end → Noted returns' end
  pub keeps_marks : KeepsMarks marks marks'
  pub keeps_returns : KeepsReturns returns returns'
  pub own_marks : (y : ℕ) (e : Option EventKind) → Seen marks' y e → Seen marks y e ⊎ Shows image p x y e
  pub own_returns : (line : ℕ) (r : Return) → ReturnAt returns' line r → ReturnAt returns line r
      ⊎ ((end : Instance) × ReturnsTo image p x end × (line ≡ end.line) × IsReturnOf r end × (r.by ≡ by))

-- the instance shows otherwise than the one of this number, or returns otherwise than what is noted of it
abbrev pub SplitsFrom : Flash → Program → List Instance → Instance → ℕ → List (Option Return) → Type 0
SplitsFrom image p nodes x other returns =
    ((z : Instance) × (slice_get nodes other ≡ Some z) × ShowApart image p z x)
    ⊎ ((end : Instance) × (r : Return) × ReturnAt returns end.line r × (r.by ≡ other) × ReturnsTo image p x end × (IsReturnOf r end → ⊥))

-- outside main an instance with these results passes a position, and shows this there
abbrev pub ShowsWith : Program → Instance → Next → ℕ → Option EventKind → Type 0
ShowsWith p x next y e = (x.kind ≢ Main) × Passing p x (most_clocks p x next.out.items) next.emit y e

-- the marks of an instance's way, or what is noted otherwise on it; those of main leave none
abbrev pub MarksWay : Program → Instance → Next → List Mark → Option Shown → List Mark → Type 0
MarksWay p x next old None new = KeepsMarks old new
    × ((y : ℕ) (e : Option EventKind) → Seen new y e → Seen old y e ⊎ ShowsWith p x next y e)
    × (x.kind ≢ Main → SeenOnWay p x (most_clocks p x next.out.items) next.emit new)
MarksWay p x next old (Some noted) new =
    (Seen old noted.place noted.event ⊎ ShowsWith p x next noted.place noted.event)
    × ((e : Option EventKind) × ShowsWith p x next noted.place e × (noted.event ≢ e))

-- the end of a return is noted
abbrev pub NotesEnd : Next → ℕ → List (Option Return) → Option ℕ → List (Option Return) → Type 0
NotesEnd next by old None new = KeepsReturns old new
    × (next.back ≡ true → (end : Instance) → slice_get next.out.items 0 ≡ Some end → Noted new end)
    × ((line : ℕ) (r : Return) → ReturnAt new line r → ReturnAt old line r
    ⊎ ((end : Instance) × ((next.back ≡ true) × (slice_get next.out.items 0 ≡ Some end)) × (line ≡ end.line) × IsReturnOf r end
    × (r.by ≡ by)))
NotesEnd next by old (Some other) new =
    (end : Instance) × (r : Return) × ReturnAt old end.line r × (r.by ≡ other)
    × ((next.back ≡ true) × (slice_get next.out.items 0 ≡ Some end)) × (IsReturnOf r end → ⊥)

-- why the search stops at the instance x
abbrev pub StopHolds : Flash → Program → List Instance → Instance → Stop → Type 0
StopHolds image p nodes x (stops.Stuck why) = IsStuck image p x why
StopHolds image p nodes x (stops.Split other) = (z : Instance) × (slice_get nodes other ≡ Some z) × Split image p z x
StopHolds image p nodes x stops.Memory = ⊤
