-- What holds at every state of a run: which instances are met, and where in the frame the state stands.
use Rattle.std.specs.Prelude.{◌≡◌, ◌⊎◌, Contains, ℕ, suc, ◌+◌, ◌-◌, ◌/◌, ◌%◌, ◌<◌, ◌≤◌, true, false, List, Some, slice_index, slice_set}
use Rattle.std.specs.Ordering.{nat_cmp}
use Rattle.std.specs.FinMap.{FinMap}
use Rattle.uz_schedule.specs.Schedule.{length_of, next_line, At, event_at, level_at}
use Rattle.uz_schedule.specs.declared.kinds.Kind.{Kind}
use Rattle.uz_schedule.specs.declared.kinds.Kind.TheVariants.{Main, Handler, Alone}
use Rattle.uz_schedule.specs.declared.header.Head.{Head}
use Rattle.uz_schedule.specs.declared.states.Rest.{Rest}
use Rattle.uz_schedule.specs.declared.states.Instance.{Instance}
use Rattle.uz_schedule.specs.declared.certificate.Cert.{Cert}
use Rattle.uz_core.specs.declared.machine.Edge.{Edge}
use Rattle.uz_core.specs.Core.{Core}
use Rattle.uz_core.specs.CoreRange.{IsCore}
use Rattle.uz_core.specs.PadLine.{PadHistory}
use Rattle.uz_core.specs.Space.{history_wiring}
use Rattle.uz_core.specs.Turn.{State, Turn, sync_level}
use Rattle.uz_core.specs.StateRange.{IsState}
use Rattle.uz_rules.specs.MemoryMeets.{CellsHold}
use Rattle.uz_transfer.specs.Kinds.{cell_place}
use Rattle.uz_transfer.specs.Memory.{depth_of}
use Rattle.uz_rules.specs.Meets.{Meets}
use Rattle.uz_check.specs.Claim.{Follows}
use Rattle.uz_core.specs.Run.{Run}
use Rattle.uz_schedule.specs.Instances.{instance_at}
use Rattle.uz_console.specs.Entry.{EntryCondition}
use Rattle.uz_check.specs.Certified.{clock_of}

-- An instance of a point of this kind is met, where o is the interrupted core, and d the depth of main's stack under a handler
pub record Stands (cert : Cert) (kind : Kind) (o : Core) (d : ℕ) (inst : Instance) (s : State PadHistory) : Type 0 where
  pub id : ℕ
  pub l : ℕ
  pub c : ℕ
  pub is : instance_at cert id l c ≡ Some inst
  pub of_kind : inst.kind ≡ kind
  pub old : IsCore o
  pub meets : Meets cert.head inst o d s

-- Where main is

-- between its rest's clock and the line's end
pub record Before (cert : Cert) (p : ℕ) (s : State PadHistory) (rest : Rest) : Type 0 where
  pub place : At cert.schedule p rest.line s.space.timer.count
  pub rested : rest.clock ≤ s.space.timer.count
  pub within : s.space.timer.count < length_of cert.schedule rest.line
  pub clear : s.space.timer.matched ≡ false

-- on the next line, where its interrupt is due
pub record Due (cert : Cert) (p : ℕ) (s : State PadHistory) (rest : Rest) : Type 0 where
  pub place : At cert.schedule p (next_line cert.schedule rest.line) s.space.timer.count
  pub early : s.space.timer.count ≤ 3
  pub set : s.space.timer.matched ≡ true
  pub settled : s.is_owed ≡ false

-- at a rest: the handler's cells lie in its ranges, and OCR1A is the last clock of its line
pub record Rests (cert : Cert) (p : ℕ) (s : State PadHistory) (rest : Rest) : Type 0 where
  pub is_rest : Contains cert.rests rest
  pub cells : CellsHold cert.head Handler rest.cells.items s.space.bytes
  pub top : suc s.space.timer.top ≡ length_of cert.schedule rest.line
  pub phase : Before cert p s rest ⊎ Due cert p s rest

-- What was interrupted

-- the bytes of the data space after an entry from this state: the pc's low byte at SP, its high byte below
abbrev pub pushed : State PadHistory → List ℕ
pushed s = slice_set (slice_set s.space.bytes s.core.sp (s.core.pc % 256)) (s.core.sp - 1) (s.core.pc / 256)

-- beside the handler's state: main's d slots, the interrupted pc above the handler's, and main's cells
pub record IsKept (head : Head) (d : ℕ) (was s : State PadHistory) : Type 0 where
  pub sp : was.core.sp + d ≡ head.hi
  pub stack : (a : ℕ) → head.hi < a + (d + 2) → a ≤ head.hi → slice_index s.space.bytes a ≡ slice_index (pushed was) a
  pub cells : (a j : ℕ) → cell_place head Main a ≡ Some j → slice_index s.space.bytes a ≡ slice_index (pushed was) a

-- The invariant

-- Which instances are met: that of a program that is alone; main's, and the rest that it is at; or the handler's, and main's
-- with the state that was interrupted
pub data Running : Type 0 where
  RunsAlone : Instance → Core → Running
  RunsMain : Instance → Core → Rest → Running
  RunsHandler : Instance → Instance → Core → State PadHistory → Running

pub record AloneRuns (cert : Cert) (p : ℕ) (s : State PadHistory) (inst : Instance) (o : Core) : Type 0 where
  pub stands : Stands cert Alone o 0 inst s
  pub place : At cert.schedule p inst.line inst.clock

pub record MainRuns (cert : Cert) (p : ℕ) (s : State PadHistory) (inst : Instance) (o : Core) (rest : Rest) : Type 0 where
  pub stands : Stands cert Main o 0 inst s
  pub rests : Rests cert p s rest

-- OCR1A is the instance's top, and TCNT1 isn't above it
pub record HandlerRuns (cert : Cert) (p : ℕ) (s : State PadHistory) (inst main : Instance) (o : Core) (was : State PadHistory) : Type
    0 where
  pub stands : Stands cert Handler was.core (depth_of main) inst s
  pub place : At cert.schedule p inst.line inst.clock
  pub below_top : s.space.timer.count ≤ s.space.timer.top
  pub was_state : IsState was
  pub main_stands : Stands cert Main o 0 main was
  pub kept : IsKept cert.head (depth_of main) was s

abbrev pub Runs : Cert → ℕ → State PadHistory → Running → Type 0
Runs cert p s (RunsAlone inst o) = AloneRuns cert p s inst o
Runs cert p s (RunsMain inst o rest) = MainRuns cert p s inst o rest
Runs cert p s (RunsHandler inst main o was) = HandlerRuns cert p s inst main o was

pub record Invariant (image : FinMap nat_cmp ℕ) (cert : Cert) (p : ℕ) (s : State PadHistory) : Type 0 where
  pub is_state : IsState s
  pub flash : s.image ≡ image
  pub level : level_at cert.schedule p ≡ Some (sync_level s.space)
  pub running : Running
  pub runs : Runs cert p s running

-- What it gives

-- from every state with the invariant the run keeps to the schedule
abbrev pub KeepsInvariant : FinMap nat_cmp ℕ → Cert → Type 0
KeepsInvariant image cert =
    (s : State PadHistory) (p : ℕ) → Invariant image cert p s → (T : ℕ) → Follows (Turn history_wiring) clock_of (event_at cert.schedule) s
    p T

-- and every state of it has the invariant, at its position
abbrev pub HoldsAlong : FinMap nat_cmp ℕ → Cert → Type 0
HoldsAlong image cert =
    (s : State PadHistory) (p n : ℕ) (edges : List Edge) (end : State PadHistory) → Invariant image cert p s → Run (Turn history_wiring) n s
    edges end → (c : ℕ) × (end.clock ≡ s.clock + c) × Invariant image cert (p + c) end

-- a state that meets the entry condition has it
abbrev pub BeginsWithIt : FinMap nat_cmp ℕ → Cert → Type 0
BeginsWithIt image cert = (s : State PadHistory) (p : ℕ) → IsState s → s.image ≡ image → EntryCondition cert s p → Invariant image cert p s
