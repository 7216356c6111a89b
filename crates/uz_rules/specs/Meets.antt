-- When a state of the machine meets an instance.
use Rattle.std.specs.Prelude.{length, true, false, ℕ, ⊤, ◌≡◌, ◌≤◌}
use Rattle.uz_schedule.specs.Schedule.{response_clocks}
use Rattle.uz_schedule.specs.declared.header.Head.{Head}
use Rattle.uz_schedule.specs.declared.kinds.Kind.{Kind}
use Rattle.uz_schedule.specs.declared.kinds.Kind.TheVariants.{Alone, Handler, Main}
use Rattle.uz_schedule.specs.declared.states.Instance.{Instance}
use Rattle.uz_core.specs.Arithmetic.{bit_is_set}
use Rattle.uz_core.specs.Core.{Core}
use Rattle.uz_core.specs.PadLine.{PadHistory}
use Rattle.uz_core.specs.Timer.{Timer, is_counting}
use Rattle.uz_core.specs.Turn.{State, sync_level}
use Rattle.uz_range.specs.Containment.{IsWithin}
use Rattle.uz_transfer.specs.Kinds.{depth_limit, is_main}
use Rattle.uz_transfer.specs.Memory.{all_flags, is_old, depth_of}
use Rattle.uz_rules.specs.ComparedHolds.{ComparedHolds}
use Rattle.uz_rules.specs.CoreMeets.{CoreMeets}
use Rattle.uz_rules.specs.MemoryMeets.{MemoryMeets}

-- in a handler TCNT1 is the instance's clock, OCF1A its pending match and OCR1A its top, and TEMP lies in its temp
abbrev pub TimerMeets : Kind → Instance → Timer → Type 0
TimerMeets Main inst t = ⊤
TimerMeets Handler inst t = (t.count ≡ inst.clock) × (t.matched ≡ inst.pending) × (t.top ≡ inst.top) × IsWithin t.temp inst.temp
TimerMeets Alone inst t = ⊤

-- beside main and under it the timer counts, and its compare match interrupts
abbrev pub TimerCounts : Kind → Timer → Type 0
TimerCounts Main t = (is_counting t ≡ true) × (bit_is_set t.interrupt_mask 1 ≡ true)
TimerCounts Handler t = (is_counting t ≡ true) × (bit_is_set t.interrupt_mask 1 ≡ true)
TimerCounts Alone t = ⊤

abbrev pub LevelMeets : Kind → ℕ → ℕ → Type 0
LevelMeets Main level sync = ⊤
LevelMeets Handler level sync = sync ≡ level
LevelMeets Alone level sync = sync ≡ level

-- a state meets an instance, where `o` is the core that was interrupted, and d the depth of main's stack under a handler
pub record Meets (head : Head) (inst : Instance) (o : Core) (d : ℕ) (s : State PadHistory) : Type 0 where
  pub pc : s.core.pc ≡ inst.pc
  pub enabled : bit_is_set s.core.sreg 7 ≡ is_main inst.kind
  pub core : CoreMeets inst o s.core
  pub compared : ComparedHolds inst.compared s.core
  pub memory : MemoryMeets head inst o d s.core.sp s.space.bytes
  pub timer : TimerMeets inst.kind inst s.space.timer
  pub ticks : TimerCounts inst.kind s.space.timer
  pub level : LevelMeets inst.kind inst.level (sync_level s.space)
  pub response : s.response ≡ response_clocks head.irq

-- What a certificate's limits give of an instance: seven flags, no more slots than the kind may push, and no old flags in main
pub record InstanceFits (head : Head) (inst : Instance) : Type 0 where
  pub flags : length inst.flags ≡ 7
  pub old : all_flags is_old inst.flags ≡ true → is_main inst.kind ≡ false
  pub depth : depth_of inst ≤ depth_limit head inst.kind
