-- Which way each turn goes: what runs before and after it, and its entry or return.
use Rattle.std.specs.Prelude.{◌≡◌, ◌⊎◌, ⊤, All, Contains, ℕ, ◌+◌, ◌≤◌, true, false, List, [], ◌∷◌, map}
use Rattle.std.specs.Ordering.{nat_cmp}
use Rattle.std.specs.FinMap.{FinMap}
use Rattle.uz_schedule.specs.declared.states.Rest.{Rest}
use Rattle.uz_schedule.specs.declared.certificate.Cert.{Cert}
use Rattle.uz_schedule.specs.Schedule.{At, length_of}
use Rattle.uz_core.specs.declared.machine.Edge.{Edge}
use Rattle.uz_core.specs.declared.machine.EdgeKind.{EdgeKind}
use Rattle.uz_core.specs.declared.machine.EdgeKind.TheVariants.{Sync, Pixel, Sound, Enter, Leave}
use Rattle.uz_core.specs.PadLine.{PadHistory}
use Rattle.uz_core.specs.Space.{history_wiring}
use Rattle.uz_core.specs.Turn.{State, Turn}
use Rattle.uz_core.specs.StateRange.{IsState}
use Rattle.uz_schedule.specs.declared.kinds.Kind.TheVariants.{Main}
use Rattle.uz_core.specs.Run.{Run}
use Rattle.uz_console.specs.Entry.{EntryCondition}
use Rattle.uz_check.specs.Invariant.{Running, RunsAlone, RunsMain, RunsHandler, Invariant}

-- neither an entry nor a return
abbrev pub IsPlain : EdgeKind → Type 0
IsPlain (Sync level) = ⊤
IsPlain (Pixel value) = ⊤
IsPlain (Sound value) = ⊤
IsPlain (Enter count) = ⊥
IsPlain Leave = ⊥

-- c clocks of main: its timer goes on, or past the line's end, where its interrupt becomes due
abbrev pub Spends : ℕ → State PadHistory → State PadHistory → ℕ → Type 0
Spends length s next c =
    ((next.space.timer.matched ≡ false) × (next.space.timer.count ≡ s.space.timer.count + c))
    ⊎ ((next.space.timer.matched ≡ true) × (next.space.timer.count + length ≡ s.space.timer.count + c))

-- a turn of c clocks from one to the other
abbrev pub Goes : Cert → State PadHistory → State PadHistory → ℕ → Running → Running → List Edge → Type 0
Goes cert s next c (RunsAlone i o) (RunsAlone j q) edges = All (λ e. IsPlain e.kind) edges
Goes cert s next c (RunsAlone i o) (RunsMain j q rest) edges = ⊥
Goes cert s next c (RunsAlone i o) (RunsHandler j m q was) edges = ⊥
Goes cert s next c (RunsMain i o rest) (RunsAlone j q) edges = ⊥
Goes cert s next c (RunsMain i o rest) (RunsMain j q later) edges =
    All (λ e. IsPlain e.kind) edges × (later ≡ rest) × (s.space.timer.matched ≡ false) × Spends (length_of cert.schedule rest.line) s next c
Goes cert s next c (RunsMain i o rest) (RunsHandler j m q was) edges =
    (edges ≡ record { clock = s.clock; kind = Enter s.space.timer.count } ∷ []) × (s.space.timer.count ≤ 3) × (s.space.timer.matched ≡ true)
Goes cert s next c (RunsHandler i m o was) (RunsAlone j q) edges = ⊥
Goes cert s next c (RunsHandler i m o was) (RunsMain j q rest) edges =
    (edges ≡ record { clock = next.clock; kind = Leave } ∷ []) × Contains cert.rests rest × (next.space.timer.count ≡ rest.clock)
    × (next.space.timer.matched ≡ false)
Goes cert s next c (RunsHandler i m o was) (RunsHandler j n q then) edges = All (λ e. IsPlain e.kind) edges

-- each turn from a state with the invariant leads to one with it, and goes one of these ways
abbrev pub EveryTurnGoes : FinMap nat_cmp ℕ → Cert → Type 0
EveryTurnGoes image cert =
    (s : State PadHistory) (p : ℕ) (edges : List Edge) (next : State PadHistory) → (now : Invariant image cert p s) → Turn history_wiring s
    edges next
    → (c : ℕ) × (then : Invariant image cert (p + c) next) × (next.clock ≡ s.clock + c) × Goes cert s next c now.running then.running edges

-- Main's time

-- in main since clock `since` of the run, which was clock `at` of line `line`; or in the handler
pub data Phase : Type 0 where
  InMain : ℕ → ℕ → ℕ → Phase
  InHandler : Phase

-- the handler returns at this rest, at this clock of a run that stood at position p at its clock `start`
pub record ReturnsAt (cert : Cert) (start p clock : ℕ) (rest : Rest) : Type 0 where
  pub is_rest : Contains cert.rests rest
  pub passed : ℕ
  pub counted : clock ≡ start + passed
  pub place : At cert.schedule (p + passed) rest.line rest.clock

-- of a run that stood at position p at its clock `start`: entries and returns alternate. An entry with TCNT1 t, 0 to 3, comes t clocks
-- after the line's end; a return is at a rest, in the line and at the clock of it
abbrev pub MainsTime : Cert → ℕ → ℕ → Phase → List (ℕ × EdgeKind) → Type 0
MainsTime cert start p phase [] = ⊤
MainsTime cert start p phase ((clock, Sync level) ∷ es) = MainsTime cert start p phase es
MainsTime cert start p phase ((clock, Pixel value) ∷ es) = MainsTime cert start p phase es
MainsTime cert start p phase ((clock, Sound value) ∷ es) = MainsTime cert start p phase es
MainsTime cert start p (InMain since line at) ((clock, Enter count) ∷ es) = (count ≤ 3)
    × (clock + at ≡ since + length_of cert.schedule line + count) × MainsTime cert start p InHandler es
MainsTime cert start p InHandler ((clock, Enter count) ∷ es) = ⊥
MainsTime cert start p (InMain since line at) ((clock, Leave) ∷ es) = ⊥
MainsTime cert start p InHandler ((clock, Leave) ∷ es) = (rest : Rest) × ReturnsAt cert start p clock rest × MainsTime cert start p
    (InMain clock rest.line rest.clock) es

abbrev pub told : List Edge → List (ℕ × EdgeKind)
told edges = map (λ e. (e.clock, e.kind)) edges

-- In every run from a state that meets a main entry, entries and returns alternate, and main's time is the line's length
-- less the rest clock, and 0 to 3 clocks more. It begins at the line and clock of the state itself
abbrev pub MainsTimeHolds : FinMap nat_cmp ℕ → Cert → Type 0
MainsTimeHolds image cert =
    (s : State PadHistory) (p n : ℕ) (edges : List Edge) (end : State PadHistory) → IsState s → s.image ≡ image → EntryCondition cert s p
    → cert.entry.kind ≡ Main → Run (Turn history_wiring) n s edges end
    → (rest : Rest) × Contains cert.rests rest × (At cert.schedule p rest.line s.space.timer.count) × MainsTime cert s.clock p
    (InMain s.clock rest.line s.space.timer.count) (told edges)
