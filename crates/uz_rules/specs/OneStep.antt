-- What one turn of the machine makes of a state that meets an instance: the law of containment.
use Rattle.avr_table.specs.Rows.{Reads}
use Rattle.avr_table.specs.declared.Instr.{Instr}
use Rattle.std.specs.FinMap.{FinMap}
use Rattle.std.specs.List.{AllByRecursion}
use Rattle.std.specs.Ordering.{nat_cmp}
use Rattle.std.specs.Prelude.{true, None, Some, Contains, List, Ok, Option, false, ℕ, ⊤, ◌%◌, ◌+◌, ◌<◌, ◌||◌, ◌≡◌, ◌≤◌}
use Rattle.uz_schedule.specs.declared.header.Head.{Head}
use Rattle.uz_schedule.specs.declared.kinds.Kind.{Kind}
use Rattle.uz_schedule.specs.declared.kinds.Kind.TheVariants.{Alone, Handler, Main}
use Rattle.uz_schedule.specs.declared.states.Instance.{Instance}
use Rattle.uz_hex.specs.Cells.{word_of}
use Rattle.uz_core.specs.Core.{Core}
use Rattle.uz_core.specs.Effects.{effect_of}
use Rattle.uz_core.specs.PadLine.{PadHistory}
use Rattle.uz_core.specs.Space.{history_wiring}
use Rattle.uz_core.specs.StateRange.{IsState}
use Rattle.uz_core.specs.Timer.{count_after, matches_within}
use Rattle.uz_core.specs.Turn.{State, Turn, is_entry, sync_level}
use Rattle.uz_core.specs.declared.machine.Edge.{Edge}
use Rattle.uz_transfer.specs.declared.step.Exit.{Exit}
use Rattle.uz_transfer.specs.declared.step.Step.{Step}
use Rattle.uz_transfer.specs.declared.step.Test.TheVariants as test
use Rattle.uz_transfer.specs.Memory.{depth_of}
use Rattle.uz_transfer.specs.Emission.{main_emits}
use Rattle.uz_transfer.specs.Kinds.{is_main, is_handler}
use Rattle.uz_transfer.specs.Narrowed.{narrowed}
use Rattle.uz_schedule.specs.Lines.{Lines}
use Rattle.uz_transfer.specs.Step.{successor, IsStep}
use Rattle.uz_rules.specs.MemoryMeets.{Untouched, HeadFits}
use Rattle.uz_rules.specs.Events.{shown_at, shown, listed}
use Rattle.uz_core.specs.declared.machine.EdgeKind.{EdgeKind}
use Rattle.uz_core.specs.declared.machine.EdgeKind.TheVariants.{Sync, Pixel, Sound, Enter, Leave}
use Rattle.uz_rules.specs.Meets.{Meets, InstanceFits}

-- in main sync and OCR1A stay, and TCNT1 and OCF1A go on by the clocks alone
abbrev pub MainTimer : Kind → ℕ → State PadHistory → State PadHistory → Type 0
MainTimer Main clocks old new =
    (sync_level new.space ≡ sync_level old.space) × (new.space.timer.top ≡ old.space.timer.top)
    × (new.space.timer.count ≡ count_after old.space.timer.count old.space.timer.top clocks)
    × (new.space.timer.matched ≡ (old.space.timer.matched || matches_within old.space.timer.count old.space.timer.top clocks))
MainTimer Handler clocks old new = ⊤
MainTimer Alone clocks old new = ⊤

-- no interrupt is entered
abbrev pub IsNoEntry : EdgeKind → Type 0
IsNoEntry (Sync level) = ⊤
IsNoEntry (Pixel value) = ⊤
IsNoEntry (Sound value) = ⊤
IsNoEntry (Enter count) = ⊥
IsNoEntry Leave = ⊤

-- a state meets what is left of an instance; none goes where nothing is left
abbrev pub MeetsLeft : Head → Option Instance → Core → ℕ → State PadHistory → Type 0
MeetsLeft head None o d s = ⊥
MeetsLeft head (Some inst) o d s = Meets head inst o d s

-- The state after an instruction meets the instance at one of the step's exits, narrowed by what that exit tells of main. In a handler
-- TCNT1 isn't above OCR1A
pub record OneStep (head : Head) (lines : Lines) (inst : Instance) (o : Core) (d : ℕ) (step : Step) (old : State PadHistory)
    (edges : List Edge) (new : State PadHistory) : Type 0 where
  pub exit : Exit
  pub is_exit : Contains step.exits.items exit
  pub meets : MeetsLeft head (narrowed step.test exit (successor lines inst step exit)) o d new
  pub asks : is_main inst.kind ≡ false → step.test ≡ test.Nothing
  pub events : shown edges ≡ listed (shown_at step.emit (old.clock + exit.clocks))
  pub no_entry : AllByRecursion (λ e. IsNoEntry e.kind) edges
  pub clock : new.clock ≡ old.clock + exit.clocks
  pub at_least_one : 1 ≤ exit.clocks
  pub at_most_four : exit.clocks ≤ 4
  pub settled : new.is_owed ≡ false
  pub untouched : Untouched head inst.kind (old.core.sp + depth_of inst) old.space.bytes new.space.bytes
  pub silent : is_main inst.kind ≡ true → step.emit ≡ None
  pub main_timer : MainTimer inst.kind exit.clocks old new
  pub below_top : is_handler inst.kind ≡ true → new.space.timer.count ≤ new.space.timer.top

-- What containment takes of an instance and a state
pub record InstructionBegins (head : Head) (lines : Lines) (image : FinMap nat_cmp ℕ) (inst : Instance) (o : Core) (d : ℕ) (step : Step)
    (s : State PadHistory) : Type 0 where
  pub is_state : IsState s
  pub flash : s.image ≡ image
  pub head_fits : HeadFits head
  pub fits : InstanceFits head inst
  pub depth : d ≤ head.main
  pub meets : Meets head inst o d s
  pub step_is : IsStep head lines image inst (Ok step)
  pub no_return : step.back ≡ false

-- Containment: the state has a turn, and each of its turns is one of the step's
pub record Contained (head : Head) (lines : Lines) (inst : Instance) (o : Core) (d : ℕ) (step : Step) (s : State PadHistory) : Type 0 where
  pub has_turn : (edges : List Edge) × (new : State PadHistory) × Turn history_wiring s edges new
  pub each_turn : (edges : List Edge) (new : State PadHistory) → Turn history_wiring s edges new → OneStep head lines inst o d step s edges
      new

abbrev pub AloneContained : Type 0
AloneContained =
    (head : Head) (lines : Lines) (image : FinMap nat_cmp ℕ) (inst : Instance) (o : Core) (d : ℕ) (step : Step) (s : State PadHistory)
    → inst.kind ≡ Alone → InstructionBegins head lines image inst o d step s → Contained head lines inst o d step s

-- in a handler, which may write OCR1A: that its instance has a step is enough. Lines have four clocks or more
abbrev pub HandlerContained : Type 0
HandlerContained =
    (head : Head) (lines : Lines) (image : FinMap nat_cmp ℕ) (inst : Instance) (o : Core) (d : ℕ) (step : Step) (s : State PadHistory)
    → inst.kind ≡ Handler → inst.clock < lines.length inst.line → 4 ≤ lines.length inst.line
    → InstructionBegins head lines image inst o d step s → Contained head lines inst o d step s

-- in main, where no interrupt is taken now
abbrev pub MainContained : Type 0
MainContained =
    (head : Head) (lines : Lines) (image : FinMap nat_cmp ℕ) (inst : Instance) (o : Core) (d : ℕ) (step : Step) (s : State PadHistory)
    → inst.kind ≡ Main → is_entry s ≡ false
    → ((i : Instr) → Reads (word_of image (inst.pc % 32768)) (word_of image ((inst.pc + 1) % 32768)) i → main_emits (effect_of i)
    inst ≡ false)
    → InstructionBegins head lines image inst o d step s → Contained head lines inst o d step s
