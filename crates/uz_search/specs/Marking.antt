-- What is noted of the positions of a frame: what the instances that pass one show there.
use Rattle.std.specs.Prelude.{◌≡◌, ◌≢◌, ◌⊎◌, ℕ, ◌≤◌, List, Option, Some, None, slice_get}
use Rattle.uz_schedule.specs.declared.lines.EventKind.{EventKind}
use Rattle.uz_schedule.specs.declared.lines.EventKind.TheVariants as kinds
use Rattle.uz_schedule.specs.declared.states.Instance.{Instance}
use Rattle.uz_search.specs.declared.program.Program.{Program}
use Rattle.uz_search.specs.declared.marks.Mark.{Mark}
use Rattle.uz_search.specs.declared.marks.Mark.TheVariants.{Unpassed, Quiet, Sync, Pixel, Sound, Leave}
use Rattle.uz_search.specs.declared.marks.Shown.{Shown}
use Rattle.uz_search.specs.Following.{place_on, shown_at, Passing}

-- the mark of a position where this is shown
abbrev pub mark_of : Option EventKind → Mark
mark_of None = Quiet
mark_of (Some (kinds.Sync level)) = Sync level
mark_of (Some kinds.Pixel) = Pixel
mark_of (Some kinds.Sound) = Sound
mark_of (Some kinds.Leave) = Leave

-- the event that a mark stands for: none where no instance has passed
abbrev pub event_of_mark : Mark → Option EventKind
event_of_mark Unpassed = None
event_of_mark Quiet = None
event_of_mark (Sync level) = Some (kinds.Sync level)
event_of_mark Pixel = Some kinds.Pixel
event_of_mark Sound = Some kinds.Sound
event_of_mark Leave = Some kinds.Leave

-- the position is marked with what is shown there
abbrev pub Seen : List Mark → ℕ → Option EventKind → Type 0
Seen marks y e = slice_get marks y ≡ Some (mark_of e)

-- marks stay
abbrev pub KeepsMarks : List Mark → List Mark → Type 0
KeepsMarks old new = (y : ℕ) (e : Option EventKind) → Seen old y e → Seen new y e

-- one position is marked, or is marked otherwise, as is answered
abbrev pub MarksOne : List Mark → ℕ → Option EventKind → Option Shown → List Mark → Type 0
MarksOne old y e None new = KeepsMarks old new × Seen new y e
    × ((z : ℕ) (d : Option EventKind) → Seen new z d → Seen old z d ⊎ ((z ≡ y) × (d ≡ e)))
MarksOne old y e (Some noted) new = (new ≡ old) × (noted.place ≡ y) × Seen old noted.place noted.event × (noted.event ≢ e)

-- each new mark is the instance's
abbrev pub MarksOwn : Program → Instance → ℕ → Option (ℕ × EventKind) → List Mark → List Mark → Type 0
MarksOwn p x most emit old new = (y : ℕ) (e : Option EventKind) → Seen new y e → Seen old y e ⊎ Passing p x most emit y e

-- each position on the way is marked with what is shown there
abbrev pub SeenOnWay : Program → Instance → ℕ → Option (ℕ × EventKind) → List Mark → Type 0
SeenOnWay p x most emit marks = (k : ℕ) → 1 ≤ k → k ≤ most → Seen marks (place_on p x k) (shown_at emit k)

-- all positions that an instance passes are marked, or one is marked otherwise, as is answered
abbrev pub MarksAll : Program → Instance → ℕ → Option (ℕ × EventKind) → List Mark → Option Shown → List Mark → Type 0
MarksAll p x most emit old None new = KeepsMarks old new × MarksOwn p x most emit old new × SeenOnWay p x most emit new
MarksAll p x most emit old (Some noted) new =
    MarksOwn p x most emit old new × Seen new noted.place noted.event
    × ((e : Option EventKind) × Passing p x most emit noted.place e × (noted.event ≢ e))
