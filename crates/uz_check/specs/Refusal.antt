-- The first item that refuses a pair of an image and a certificate.
use Rattle.std.specs.Prelude.{◌≡◌, ◌⊎◌, ⊤, ℕ, suc, ◌+◌, ◌-◌, ◌<◌, ◌≤◌, Option, Some, None, slice_get, length}
use Rattle.std.specs.Option.{option_map}
use Rattle.std.specs.Ordering.{nat_cmp}
use Rattle.std.specs.FinMap.{FinMap}
use Rattle.uz_schedule.specs.declared.lines.Schedule.{Schedule as Frame}
use Rattle.uz_schedule.specs.declared.states.Rest.{Rest}
use Rattle.uz_schedule.specs.declared.states.Point.{Point}
use Rattle.uz_schedule.specs.declared.certificate.Cert.{Cert}
use Rattle.uz_transfer.specs.declared.fail.Fail.{Fail}
use Rattle.uz_check.specs.FrameRules.{RestPasses, EntryPasses}
use Rattle.uz_rules.specs.Local.{IsLocal}
use Rattle.uz_check.specs.declared.refusal.RefusedWhy.{RefusedWhy}
use Rattle.uz_check.specs.declared.refusal.RefusedWhy.TheVariants.{Schedule, Rest as RestWhy, Entry, Point as PointWhy}
use Rattle.uz_check.specs.Steadiness.{first_break}

-- what refuses: nothing, or an item
abbrev pub Why : Type 0
Why = Option RefusedWhy

-- the first refusal among count items from this one on: that of an item before which none refuses
abbrev pub FirstOf : (ℕ → Why → Type 0) → ℕ → ℕ → Why → Type 0
FirstOf answer from count None = (i : ℕ) → from ≤ i → i < from + count → answer i None
FirstOf answer from count (Some why) = (i : ℕ) × (from ≤ i) × (i < from + count) × answer i (Some why)
    × ((j : ℕ) → from ≤ j → j < i → answer j None)

-- what the first of two refuses, or where it refuses nothing the second
abbrev pub InTurn : (Why → Type 0) → (Why → Type 0) → Why → Type 0
InTurn first second None = first None × second None
InTurn first second (Some why) = first (Some why) ⊎ (first None × second (Some why))

unfoldable pub ScheduleRefusal : Frame → Why → Type 0
ScheduleRefusal schedule why = why ≡ option_map (λ place. Schedule place.0 place.1) (first_break schedule)

unfoldable pub RestRefusal : Cert → Rest → Why → Type 0
RestRefusal cert rest None = RestPasses cert rest
RestRefusal cert rest (Some why) = (RestPasses cert rest → ⊥) × (why ≡ RestWhy rest.line)

-- rests are in order of their lines
unfoldable pub RestsRefusal : Cert → Why → Type 0
RestsRefusal cert why = FirstOf (λ i o. (rest : Rest) × (slice_get cert.rests i ≡ Some rest) × RestRefusal cert rest o) 0
    (length cert.rests) why

unfoldable pub EntryRefusal : Cert → Why → Type 0
EntryRefusal cert None = EntryPasses cert
EntryRefusal cert (Some why) = (EntryPasses cert → ⊥) × (why ≡ Entry)

unfoldable pub InstanceRefusal : FinMap nat_cmp ℕ → Cert → ℕ → ℕ → ℕ → Why → Type 0
InstanceRefusal image cert id l c None = IsLocal image cert id l c None
InstanceRefusal image cert id l c (Some why) = (fail : Fail) × IsLocal image cert id l c (Some fail) × (why ≡ PointWhy id l c fail)

-- of a point's instances on a line, by count
unfoldable pub LineRefusal : FinMap nat_cmp ℕ → Cert → ℕ → Point → ℕ → Why → Type 0
LineRefusal image cert id point l why = FirstOf (InstanceRefusal image cert id l) point.c0 (suc point.c1 - point.c0) why

-- of a point, by line
unfoldable pub PointRefusal : FinMap nat_cmp ℕ → Cert → ℕ → Point → Why → Type 0
PointRefusal image cert id point why = FirstOf (LineRefusal image cert id point) point.l0 (suc point.l1 - point.l0) why

-- by number
unfoldable pub PointsRefusal : FinMap nat_cmp ℕ → Cert → Why → Type 0
PointsRefusal image cert why = FirstOf (λ id o. (point : Point) × (slice_get cert.points id ≡ Some point) × PointRefusal image cert id point
    o) 0 (length cert.points) why

-- the schedule, then the rests, then the entry, then the points
abbrev pub FirstRefusal : FinMap nat_cmp ℕ → Cert → Why → Type 0
FirstRefusal image cert why = InTurn (ScheduleRefusal cert.schedule)
    (InTurn (RestsRefusal cert) (InTurn (EntryRefusal cert) (PointsRefusal image cert))) why

-- what a refusal names is there: a line of the frame, a point of the certificate
abbrev pub IsThere : Cert → RefusedWhy → Type 0
IsThere cert (Schedule line clock) = line < length cert.schedule.lines
IsThere cert (RestWhy line) = line < length cert.schedule.lines
IsThere cert Entry = ⊤
IsThere cert (PointWhy id l c why) = id < length cert.points
