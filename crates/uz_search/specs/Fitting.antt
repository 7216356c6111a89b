-- What a search asks of a program, and what holds of each instance on a trail.
use Rattle.std.specs.Prelude.{◌≡◌, ◌≢◌, ℕ, ◌+◌, ◌-◌, ◌<◌, ◌≤◌, false, IsTrue}
use Rattle.uz_schedule.specs.Ends.{whole_byte}
use Rattle.uz_schedule.specs.Schedule.{length_of, response_clocks, scanline}
use Rattle.uz_schedule.specs.Told.{IsInstanceTold}
use Rattle.uz_schedule.specs.WellFormed.{HeadFits}
use Rattle.uz_schedule.specs.Limits.{is_length, is_top, most_lines}
use Rattle.uz_schedule.specs.declared.kinds.Kind.TheVariants.{Main, Handler}
use Rattle.uz_schedule.specs.declared.states.Instance.{Instance}
use Rattle.uz_search.specs.declared.program.Program.{Program}
use Rattle.uz_search.specs.Following.{Among, lines_of}

-- it stands at a line of the frame and a clock of it, main at the frame's begin; where it is a handler's, each entry comes before the fall
pub record Stands (p : Program) (x : Instance) : Type 0 where
  pub line : x.line < lines_of p
  pub clock : x.clock < length_of p.schedule x.line
  pub level : x.level ≤ 1
  pub main : x.kind ≡ Main → (x.line ≡ 0) × (x.clock ≡ 0)
  pub entered : x.kind ≡ Handler → response_clocks p.head.irq + 3 < p.schedule.fall
  pub pending : x.kind ≢ Handler → x.pending ≡ false
  -- OCR1A is the last clock of a line; outside handlers nothing is known of the timer
  pub top : IsTrue (is_top x.top)
  pub timer : x.kind ≢ Handler → (x.top ≡ scanline - 1) × (x.temp ≡ whole_byte)
  pub told : IsInstanceTold x

-- a start: the level is 1, and outside main it stands before the first line's fall
pub record StartFits (p : Program) (x : Instance) : Type 0 where
  pub stands : Stands p x
  pub level : x.level ≡ 1
  pub line : x.kind ≢ Main → x.line ≡ 0
  pub before : x.kind ≢ Main → x.clock < p.schedule.fall

pub record ProgramFits (p : Program) : Type 0 where
  pub head : HeadFits p.head
  pub some : 1 ≤ lines_of p
  pub few : lines_of p ≤ most_lines
  -- a line has the clocks of a scanline, or of half of one, and the fall is one of them
  pub lengths : (l : ℕ) → IsTrue (is_length (length_of p.schedule l))
  pub fall_some : 1 ≤ p.schedule.fall
  pub fall_in_line : (l : ℕ) → p.schedule.fall < length_of p.schedule l
  pub starts : (x : Instance) → Among p.starts x → StartFits p x
  -- some start isn't of main: a program that is alone, or the handler's entry
  pub begins : (x : Instance) × Among p.starts x × (x.kind ≢ Main)
