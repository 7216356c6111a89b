-- A certificate that is made of an ended search: its schedule shows what the instances show, and its rests are the handler's returns.
use Rattle.std.specs.Prelude.{◌≡◌, ℕ, ◌+◌, ◌<◌, List, Option, Some, None, length, slice_get}
use Rattle.uz_schedule.specs.Schedule.{length_of, start_of, event_at}
use Rattle.uz_schedule.specs.declared.certificate.Cert.{Cert}
use Rattle.uz_schedule.specs.declared.lines.EventKind.{EventKind}
use Rattle.uz_schedule.specs.declared.lines.Schedule.{Schedule}
use Rattle.uz_schedule.specs.declared.states.Rest.{Rest}
use Rattle.uz_rules.specs.Local.{rest_in}
use Rattle.uz_search.specs.declared.found.Found.{Found}
use Rattle.uz_search.specs.declared.marks.Mark.{Mark}
use Rattle.uz_search.specs.declared.program.Program.{Program}
use Rattle.uz_search.specs.declared.returns.Return.{Return}
use Rattle.uz_search.specs.Following.{lines_of, line_start}
use Rattle.uz_search.specs.Marking.{event_of_mark}
use Rattle.uz_search.specs.Returning.{ReturnAt}

-- what is shown at a position: nothing where no instance passes
abbrev pub event_of : Option Mark → Option EventKind
event_of None = None
event_of (Some m) = event_of_mark m

abbrev pub marked_at : List Mark → ℕ → Option EventKind
marked_at marks y = event_of (slice_get marks y)

-- the lines, their lengths and the fall are the program's, and at each clock of each line stands what is shown there
pub record IsScheduleOf (p : Program) (marks : List Mark) (s : Schedule) : Type 0 where
  pub lines : length s.lines ≡ lines_of p
  pub lengths : (l : ℕ) → length_of s l ≡ length_of p.schedule l
  pub fall : s.fall ≡ p.schedule.fall
  pub events : (l k : ℕ) → l < lines_of p → k < length_of s l → event_at s (start_of s l + k) ≡ marked_at marks (line_start l + k)

-- each return is its line's rest
abbrev pub AreRestsOf : List (Option Return) → List Rest → Type 0
AreRestsOf returns rests = (l : ℕ) (r : Return) → ReturnAt returns l r → (rest : Rest) × (rest_in rests l ≡ Some rest)
    × (rest.clock ≡ r.clock) × (rest.cells.items ≡ r.cells.items)

pub record IsMadeOf (p : Program) (found : Found) (cert : Cert) : Type 0 where
  pub head : cert.head ≡ p.head
  pub schedule : IsScheduleOf p found.marks.items cert.schedule
  pub rests : AreRestsOf found.returns.items cert.rests
