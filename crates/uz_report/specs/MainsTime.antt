-- Main's time along a run, as its edges tell it: from each return of the handler to the next entry, and in a round of the frame.
use Rattle.std.specs.Prelude.{◌≡◌, ◌⊎◌, ⊤, All, Contains, ℕ, ◌+◌, ◌-◌, ◌<◌, ◌≤◌, Bool, true, false, List, [], ◌∷◌, ◌++◌, filter, map}
use Rattle.std.specs.List.{flat_map, sum_by}
use Rattle.std.specs.Ordering.{nat_cmp}
use Rattle.std.specs.FinMap.{FinMap}
use Rattle.uz_core.specs.declared.machine.Edge.{Edge}
use Rattle.uz_core.specs.declared.machine.EdgeKind.{EdgeKind}
use Rattle.uz_core.specs.declared.machine.EdgeKind.TheVariants.{Sync, Pixel, Sound, Enter, Leave}
use Rattle.uz_core.specs.PadLine.{PadHistory}
use Rattle.uz_core.specs.Space.{history_wiring}
use Rattle.uz_core.specs.Turn.{State, Turn}
use Rattle.uz_core.specs.StateRange.{IsState}
use Rattle.uz_core.specs.Run.{Run}
use Rattle.uz_schedule.specs.Schedule.{At, frame_of}
use Rattle.uz_schedule.specs.declared.kinds.Kind.TheVariants.{Main}
use Rattle.uz_schedule.specs.declared.states.Rest.{Rest}
use Rattle.uz_schedule.specs.declared.certificate.Cert.{Cert}
use Rattle.uz_console.specs.Entry.{EntryCondition}
use Rattle.uz_check.specs.ReturnTimes.{HasReturn, return_at}
use Rattle.uz_check.specs.Ways.{IsPlain, ReturnsAt}
use Rattle.uz_report.specs.Slacks.{least_after, frame_least, frame_most, latest}

-- Entries and returns

abbrev pub is_entry_or_return : EdgeKind → Bool
is_entry_or_return (Sync level) = false
is_entry_or_return (Pixel value) = false
is_entry_or_return (Sound value) = false
is_entry_or_return (Enter count) = true
is_entry_or_return Leave = true

-- those among edges, in their order
abbrev pub entries_and_returns : List Edge → List Edge
entries_and_returns edges = filter (λ e. is_entry_or_return e.kind) edges

abbrev pub IsEntry : EdgeKind → Type 0
IsEntry (Sync level) = ⊥
IsEntry (Pixel value) = ⊥
IsEntry (Sound value) = ⊥
IsEntry (Enter count) = ⊤
IsEntry Leave = ⊥

-- The first of them is an entry. Of two that follow one another one is an entry and the other a return: between two entries lies
-- exactly one return, and between two returns exactly one entry
pub record TakeTurns (edges : List Edge) : Type 0 where
  pub first : (e : Edge) (later : List Edge) → entries_and_returns edges ≡ e ∷ later → IsEntry e.kind
  pub in_turn : (before : List Edge) (e next : Edge) (later : List Edge) → entries_and_returns edges ≡ before ++ e ∷ next ∷ later
      → (IsEntry e.kind × (next.kind ≡ Leave)) ⊎ ((e.kind ≡ Leave) × IsEntry next.kind)

-- One gap

-- main goes on for so many clocks after this rest
abbrev pub IsWithin : Cert → Rest → ℕ → Type 0
IsWithin cert rest clocks = (least_after cert.schedule rest ≤ clocks) × (clocks ≤ least_after cert.schedule rest + latest)

-- the handler returned at clock `left` of a run that stood at position p at its clock `start`, and this rest is that return's
pub record Rested (cert : Cert) (start p left clocks : ℕ) : Type 0 where
  pub rest : Rest
  pub returned : ReturnsAt cert start p left rest
  pub within : IsWithin cert rest clocks

-- from each return to the next entry
abbrev pub EachGap : Cert → ℕ → ℕ → List Edge → Type 0
EachGap cert start p edges =
    (before between after : List Edge) (left entered count : ℕ)
    → edges ≡ before ++ (record { clock = left; kind = Leave } ∷ between) ++ (record { clock = entered; kind = Enter count } ∷ after)
    → All (λ e. IsPlain e.kind) between
    → Rested cert start p left (entered - left)

-- A round of the frame

-- each return is at a rest, at the rest's place in the frame
abbrev pub EachAtRest : Cert → ℕ → ℕ → List Edge → Type 0
EachAtRest cert start p edges = (clock : ℕ) → HasReturn edges clock → (rest : Rest) × ReturnsAt cert start p clock rest

-- and each rest's return comes whenever the rest's place in the frame does, up to the run's end
abbrev pub EachReturn : Cert → ℕ → ℕ → ℕ → List Edge → Type 0
EachReturn cert start p end edges =
    (rest : Rest) (passed : ℕ) → Contains cert.rests rest → At cert.schedule (p + passed) rest.line rest.clock → 0 < passed
    → start + passed ≤ end → HasReturn edges (start + passed)

-- a return at a rest, and the entry that follows it, where TCNT1 is this count
pub record Gap : Type 0 where
  pub rest : Rest
  pub left : ℕ
  pub entered : ℕ
  pub count : ℕ

abbrev pub edges_of : Gap → List Edge
edges_of gap = return_at gap.left ∷ record { clock = gap.entered; kind = Enter gap.count } ∷ []

-- main's clocks between the two
abbrev pub clocks_of : Gap → ℕ
clocks_of gap = gap.entered - gap.left

-- all of a certificate's rests in the frame's order, from one of them on and round to the one before it: a certificate has them by
-- rising lines, at most one a line
pub record AreInFrameOrder (all rests : List Rest) : Type 0 where
  pub earlier : List Rest
  pub later : List Rest
  pub cut : all ≡ earlier ++ later
  pub is : rests ≡ later ++ earlier

-- The entries and returns among these edges are one return after each of the certificate's rests, in the frame's order, and after
-- each return an entry. Main's clocks from these returns to these entries are the frame's: least and most
pub record Round (cert : Cert) (start p : ℕ) (edges : List Edge) : Type 0 where
  pub gaps : List Gap
  pub passed : entries_and_returns edges ≡ flat_map edges_of gaps
  pub order : AreInFrameOrder cert.rests (map (λ (gap : Gap). gap.rest) gaps)
  pub returned : All (λ (gap : Gap). ReturnsAt cert start p gap.left gap.rest) gaps
  pub within : All (λ (gap : Gap). IsWithin cert gap.rest (clocks_of gap)) gaps
  pub least : frame_least cert ≤ sum_by clocks_of gaps
  pub most : sum_by clocks_of gaps ≤ frame_most cert

-- from each return to the same return a frame later
abbrev pub EachRound : Cert → ℕ → ℕ → List Edge → Type 0
EachRound cert start p edges =
    (before between after : List Edge) (left : ℕ)
    → edges ≡ before ++ return_at left ∷ (between ++ return_at (left + frame_of cert.schedule) ∷ after)
    → Round cert start p (return_at left ∷ between)

-- Of a whole run, which stood at position p at its clock `start`

pub record IsMainsTime (cert : Cert) (start p end : ℕ) (edges : List Edge) : Type 0 where
  pub turns : TakeTurns edges
  pub gaps : EachGap cert start p edges
  pub rests : EachAtRest cert start p edges
  pub returns : EachReturn cert start p end edges
  pub rounds : EachRound cert start p edges

-- What the numbers of a report are worth: so it is in whatever run from a state that meets a main entry
pub record MainsTimeTells (image : FinMap nat_cmp ℕ) (cert : Cert) : Type 0 where
  pub runs : (s : State PadHistory) (p n : ℕ) (edges : List Edge) (end : State PadHistory) → IsState s → s.image ≡ image
      → EntryCondition cert s p → cert.entry.kind ≡ Main → Run (Turn history_wiring) n s edges end
      → IsMainsTime cert s.clock p end.clock edges
