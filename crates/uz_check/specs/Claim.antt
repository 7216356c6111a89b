-- What it is for a run to keep to a schedule. Nothing here knows what a machine's turn is.
use Rattle.std.specs.Prelude.{◌≡◌, All, ⊤, ℕ, zero, suc, ◌+◌, ◌<◌, ◌≤◌, nat_le, List, [], ◌++◌, filter, Option}
use Rattle.uz_schedule.specs.declared.lines.EventKind.{EventKind}
use Rattle.uz_core.specs.declared.machine.Edge.{Edge}
use Rattle.uz_core.specs.declared.machine.EdgeKind.{EdgeKind}
use Rattle.uz_core.specs.declared.machine.EdgeKind.TheVariants.{Sync as SyncEdge, Pixel as PixelEdge, Sound as SoundEdge, Enter as EnterEdge}
use Rattle.uz_core.specs.declared.machine.EdgeKind.TheVariants.{Leave as LeaveEdge}
use Rattle.uz_core.specs.Run.{Run}
use Rattle.uz_rules.specs.Events.{Shown, shown_at, shown, listed}

-- the events that stand at the count positions after p, where position p is this clock of the run
abbrev pub scheduled : (ℕ → Option EventKind) → ℕ → ℕ → ℕ → List Shown
scheduled at p clock zero = []
scheduled at p clock (suc count) = listed (shown_at (at (suc p)) (suc clock)) ++ scheduled at (suc p) (suc clock) count

-- those of clock at most limit
abbrev pub until : ℕ → List Shown → List Shown
until limit events = filter (λ e. nat_le e.clock limit) events

-- an interrupt is taken with TCNT1 0 to 3, that is in the first clocks of a line
abbrev pub InTime : EdgeKind → Type 0
InTime (SyncEdge level) = ⊤
InTime (PixelEdge value) = ⊤
InTime (SoundEdge value) = ⊤
InTime (EnterEdge count) = count ≤ 3
InTime LeaveEdge = ⊤

-- From state s, which stands at position p of the frame, the machine keeps to the schedule for T clocks
pub record Follows {S : Type 0} (turn : S → List Edge → S → Type 0) (clock_of : S → ℕ) (at : ℕ → Option EventKind) (s : S) (p T : ℕ) : Type
    0 where
  -- no state of clock less than T after s lacks a turn
  pub goes_on : (n : ℕ) (edges : List Edge) (end : S) → Run turn n s edges end → clock_of end < clock_of s + T → (more : List Edge)
      × (next : S) × turn end more next
  -- the run comes to T clocks after s
  pub comes : (n : ℕ) × (edges : List Edge) × (end : S) × Run turn n s edges end × (clock_of s + T ≤ clock_of end)
  -- and then its events of clock at most T after s are, one by one, those of the schedule at the positions p + 1 to p + T
  pub exact : (n : ℕ) (edges : List Edge) (end : S) → Run turn n s edges end → clock_of s + T ≤ clock_of end → until (clock_of s + T)
      (shown edges) ≡ scheduled at p (clock_of s) T
  -- its interrupts are taken in time
  pub entries : (n : ℕ) (edges : List Edge) (end : S) → Run turn n s edges end → All (λ e. InTime e.kind) edges
