-- What holds of what the lines of a text say, as long as none has a fault: it is within the limits and orders of a well
-- formed certificate.
use Rattle.std.specs.Prelude.{◌≡◌, ◌≢◌, ◌⊎◌, ⊤, ℕ, ◌+◌, ◌<◌, ◌≤◌, IsTrue, false, List, [], ◌∷◌, All, length, map, sum_by, IfSome, None}
use Rattle.uz_schedule.specs.Limits.{clock_limit, most_events, rises, clocks_below, lengths_fit, EventFits, EventsFit}
use Rattle.uz_schedule.specs.WellFormed.{StackFits, CellFits, RestFits, EntryFits, PointFits, instances_of}
use Rattle.uz_schedule.specs.declared.header.Cell.{Cell}
use Rattle.uz_schedule.specs.declared.header.Head.{Head}
use Rattle.uz_schedule.specs.declared.lines.Event.{Event}
use Rattle.uz_schedule.specs.declared.states.Rest.{Rest}
use Rattle.uz_schedule.specs.declared.states.Entry.{Entry}
use Rattle.uz_schedule.specs.declared.states.Point.{Point}
use Rattle.uz_cert_lines.specs.Lines.{SizesFit, IsLengthIn, KindLineFits, IsPointIn, rules_of}
use Rattle.uz_cert_lines.specs.declared.lines.KindLine.{KindLine}
use Rattle.uz_cert_lines.specs.declared.version.Version.{Version}
use Rattle.uz_cert_lines.specs.declared.lines.Sizes.{Sizes}
use Rattle.uz_cert_lines.specs.declared.lines.ParsedLine.{ParsedLine}
use Rattle.uz_cert_lines.specs.declared.lines.ParsedLine.TheVariants as parsed
use Rattle.uz_cert_laws.specs.LineWords.{least_after}
use Rattle.uz_cert.specs.declared.draft.Draft.{Draft}

-- the cells so far, of this many
pub record CellsKept (h : Head) (count least : ℕ) : Type 0 where
  pub few : length h.cells.items ≤ count
  pub each : All (CellFits h) h.cells.items
  pub rise : IsTrue (rises (map (λ c. c.at) h.cells.items))
  pub least_is : least ≡ least_after 0 (map (λ c. c.at) h.cells.items)

-- the events so far of the present kind of line, which has so many clocks, and how many are owed
pub record EventsKept (version : Version) (events : List Event) (owed least clocks : ℕ) : Type 0 where
  pub few : length events + owed ≤ most_events
  pub each : All EventFits events
  pub below : IsTrue (clocks_below events clocks)
  pub own : IsLengthIn version clocks
  pub rise : IsTrue (rises (map (λ e. e.clock) events))
  pub least_is : least ≡ least_after 0 (map (λ e. e.clock) events)
  pub present : owed ≡ 0 → events ≡ []

-- the kinds of line so far, of this many, and the length of each
pub record KindsKept (version : Version) (kinds : List (List Event)) (lengths : List ℕ) (count owed : ℕ) : Type 0 where
  pub few : length kinds ≤ count
  pub owing : 1 ≤ owed → length kinds < count
  pub each : All EventsFit kinds
  pub fit : IsTrue (lengths_fit kinds lengths)
  pub own : All (IsLengthIn version) lengths

-- the lines so far, of this many, each of one of so many kinds
pub record LinesKept (lines : List ℕ) (kinds count : ℕ) : Type 0 where
  pub few : length lines ≤ count
  pub there : All (λ kind. kind < kinds) lines

pub record RestsKept (h : Head) (s : Sizes) (rests : List Rest) (least : ℕ) : Type 0 where
  pub few : length rests ≤ s.rests
  pub each : All (RestFits h s.lines s.points) rests
  pub rise : IsTrue (rises (map (λ r. r.line) rests))
  pub least_is : least ≡ least_after 0 (map (λ r. r.line) rests)

-- the points so far, and the instances that are left
pub record PointsKept (version : Version) (h : Head) (s : Sizes) (points : List Point) (left : ℕ) : Type 0 where
  pub few : length points ≤ s.points
  pub each : All (PointFits h s.lines s.points) points
  pub own : All (IsPointIn version) points
  pub instances : left + sum_by instances_of points ≡ 16777216

-- the kinds of line, the fall and the lines so far
abbrev pub ScheduleKept : Draft → Type 0
ScheduleKept d =
    EventsKept d.version d.events d.owed d.event_least d.clocks × KindsKept d.version d.kinds d.lengths d.sizes.kinds d.owed
    × (d.fall < clock_limit) × LinesKept d.lines d.sizes.kinds d.sizes.lines

-- the rests, the entry and the points so far
abbrev pub StatesKept : Draft → Type 0
StatesKept d =
    RestsKept d.head d.sizes d.rests d.rest_least × IfSome d.entry (EntryFits d.head d.sizes.lines d.sizes.points)
    × PointsKept d.version d.head d.sizes d.points d.left

-- lines whose last is of this kind, if there is one
abbrev pub LastIs : ℕ → List ℕ → Type 0
LastIs kind [] = ⊤
LastIs kind (x ∷ []) = x ≡ kind
LastIs kind (x ∷ y ∷ ys) = LastIs kind (y ∷ ys)

-- lines of cells, and lines of the schedule, are still to come
abbrev pub AreCellsDue : Draft → Type 0
AreCellsDue d = (d.read ≤ 3) ⊎ (length d.head.cells.items < d.sizes.cells)

abbrev pub AreKindsDue : Draft → Type 0
AreKindsDue d = AreCellsDue d ⊎ ((1 ≤ d.owed) ⊎ (length d.kinds < d.sizes.kinds))

-- what comes after the fall is still empty
abbrev pub LateLater : Draft → Type 0
LateLater d =
    (d.fall ≡ 0 → d.lines ≡ []) × (length d.lines < d.sizes.lines → d.rests ≡ [])
    × ((length d.lines < d.sizes.lines) ⊎ (length d.rests < d.sizes.rests) → d.entry ≡ None)
    × (d.entry ≡ None → d.points ≡ []) × (length d.points < d.sizes.points → d.ended ≡ false)

-- what isn't due yet is still empty
pub record Later (d : Draft) : Type 0 where
  pub cells : d.read ≤ 3 → d.head.cells.items ≡ []
  pub kinds : AreCellsDue d → (d.kinds ≡ []) × (d.lengths ≡ []) × (d.owed ≡ 0)
  pub fall : AreKindsDue d → d.fall ≡ 0
  pub late : LateLater d
  pub run : LastIs d.run_kind d.lines

pub record Kept (d : Draft) : Type 0 where
  pub begun : 1 ≤ d.read
  pub rules : d.head.version ≡ rules_of d.version
  pub sizes : SizesFit d.sizes
  pub stack : StackFits d.head
  pub cells : CellsKept d.head d.sizes.cells d.cell_least
  pub schedule : ScheduleKept d
  pub states : StatesKept d
  pub later : Later d

-- What a line may say where it is due

-- one of the first lines after the head, or one after them
abbrev pub IsOpening : Draft → Type 0
IsOpening d = d.read ≤ 3

abbrev pub IsBody : Draft → Type 0
IsBody d = 4 ≤ d.read

-- the lines of states come after all cells
pub record IsAfterCells (d : Draft) : Type 0 where
  pub body : IsBody d
  pub cells : d.sizes.cells ≤ length d.head.cells.items

pub record CellSaid (d : Draft) (c : Cell) : Type 0 where
  pub body : IsBody d
  pub room : length d.head.cells.items < d.sizes.cells
  pub fits : CellFits d.head c
  pub order : d.cell_least ≤ c.at

pub record KindSaid (d : Draft) (k : KindLine) : Type 0 where
  pub body : IsBody d
  pub none_owed : d.owed ≡ 0
  pub room : length d.kinds < d.sizes.kinds
  pub fits : KindLineFits d.version k

pub record EventSaid (d : Draft) (e : Event) : Type 0 where
  pub body : IsBody d
  pub owed : 1 ≤ d.owed
  pub fits : EventFits e
  pub below : e.clock < d.clocks
  pub order : d.event_least ≤ e.clock

-- lines of a kind that there is and that isn't the one of the run before, and no line too many
pub record RunSaid (d : Draft) (count kind : ℕ) : Type 0 where
  pub body : IsBody d
  pub some : 1 ≤ count
  pub few : length d.lines + count ≤ d.sizes.lines
  pub there : kind < d.sizes.kinds
  pub other : kind ≢ d.run_kind

pub record RestSaid (d : Draft) (r : Rest) : Type 0 where
  pub after : IsAfterCells d
  pub room : length d.rests < d.sizes.rests
  pub fits : RestFits d.head d.sizes.lines d.sizes.points r
  pub order : d.rest_least ≤ r.line

pub record EntrySaid (d : Draft) (e : Entry) : Type 0 where
  pub after : IsAfterCells d
  pub fits : EntryFits d.head d.sizes.lines d.sizes.points e

-- a point whose instances are left
pub record PointSaid (d : Draft) (p : Point) : Type 0 where
  pub after : IsAfterCells d
  pub room : length d.points < d.sizes.points
  pub fits : PointFits d.head d.sizes.lines d.sizes.points p
  pub own : IsPointIn d.version p
  pub instances : instances_of p ≤ d.left

abbrev pub SaidFits : Draft → ParsedLine → Type 0
SaidFits d (parsed.Size s) = IsOpening d × SizesFit s
SaidFits d (parsed.Irq r) = IsOpening d
SaidFits d (parsed.Stack s) = IsOpening d × StackFits (record d.head { lo = s.lo; hi = s.hi; main = s.main; handler = s.handler })
SaidFits d (parsed.Cell c) = CellSaid d c
SaidFits d (parsed.Kind k) = KindSaid d k
SaidFits d (parsed.Event e) = EventSaid d e
SaidFits d (parsed.Fall clock) = IsBody d × (1 ≤ clock) × (clock < clock_limit)
SaidFits d (parsed.Run r) = RunSaid d r.count r.kind
SaidFits d (parsed.Rest r) = RestSaid d r
SaidFits d (parsed.Entry e) = EntrySaid d e
SaidFits d (parsed.Point p) = PointSaid d p
SaidFits d parsed.End = IsBody d
