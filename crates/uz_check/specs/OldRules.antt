-- The rules by which a pair of an image and a certificate of version 1 is accepted: the local rule and the rules of the frame, by positions
-- of 1820 clocks a line. OCR1A is the last clock of every line, and TEMP may be any byte: a text of version 1 says nothing of them.
use Rattle.std.specs.Prelude.{◌≡◌, ◌≢◌, All, Contains, ℕ, ◌+◌, ◌-◌, ◌<◌, ◌≤◌, true, false, List, length, Option, Some, None, Ok, slice_get}
use Rattle.std.specs.Ordering.{nat_cmp}
use Rattle.std.specs.FinMap.{FinMap}
use Rattle.avr_table.specs.declared.Instr.{Instr}
use Rattle.uz_core.specs.Effects.{effect_of}
use Rattle.uz_schedule.specs.Ends.{whole_byte}
use Rattle.uz_schedule.specs.Instances.{is_in_box}
use Rattle.uz_schedule.specs.Lines.{uniform}
use Rattle.uz_schedule.specs.Schedule.{scanline}
use Rattle.uz_schedule.specs.WellFormed.{IsTimerLeftOut}
use Rattle.uz_schedule.specs.declared.certificate.Cert.{Cert}
use Rattle.uz_schedule.specs.declared.kinds.Kind.TheVariants.{Main}
use Rattle.uz_schedule.specs.declared.kinds.RuleVersion.TheVariants.{Two}
use Rattle.uz_schedule.specs.declared.lines.EventKind.{EventKind}
use Rattle.uz_schedule.specs.declared.lines.Schedule.{Schedule}
use Rattle.uz_schedule.specs.declared.states.Instance.{Instance}
use Rattle.uz_schedule.specs.declared.states.Point.{Point}
use Rattle.uz_schedule.specs.declared.states.Rest.{Rest}
use Rattle.uz_transfer.specs.declared.step.Exit.{Exit}
use Rattle.uz_transfer.specs.declared.step.Step.{Step}
use Rattle.uz_transfer.specs.Step.{IsReadAt, step_of_row, successor}
use Rattle.uz_rules.specs.Inside.{cells_inside, restored}
use Rattle.uz_rules.specs.Local.{first_exit, is_stop, rest_in, row_emits_in_main}
use Rattle.uz_check.specs.Steady.{IsSteady}
use Rattle.uz_check.specs.ByPosition.{position, event_by_position, instance_by_position, LiesByPosition, RestByPosition, EntryByPosition}

-- What a text of version 1 can say: each kind of line has the clocks of a scanline, of no point OCR1A or TEMP is said, and the rules are
-- those of version 2, which know nothing of comparisons
pub record IsOld (cert : Cert) : Type 0 where
  pub version : cert.head.version ≡ Two
  pub lengths : All (λ n. n ≡ scanline) cert.schedule.lengths
  pub points : All IsTimerLeftOut cert.points

-- The local rule

-- what is known at an exit, in a frame of so many scanlines
abbrev pub result_by_scanlines : Cert → Instance → Step → Exit → Instance
result_by_scanlines cert at step exit = successor (uniform (length cert.schedule.lines)) at step exit

-- no event stands at the positions that the instruction passes, and at the one where it ends the event that it emits, if it emits one
pub record EmitsByPosition (s : Schedule) (at : Instance) (emitted : Option EventKind) (exit : Exit) : Type 0 where
  pub quiet : (k : ℕ) → 1 ≤ k → k < exit.clocks → event_by_position s (position at.line at.clock + k) ≡ None
  pub end : event_by_position s (position at.line at.clock + exit.clocks) ≡ emitted

-- the line on which the handler returns has a rest, at the clock of the return; what was interrupted is restored, and each of the handler's
-- cells is in its range there
pub record ReturnsAtRest (cert : Cert) (end : Instance) : Type 0 where
  pub rest : Rest
  pub there : rest_in cert.rests end.line ≡ Some rest
  pub clock : end.clock ≡ rest.clock
  pub restored : restored end ≡ true
  pub cells : cells_inside end.cells.items rest.cells.items ≡ true

-- a result lies in an instance of one of these points
pub record LiesInOne (cert : Cert) (ids : List ℕ) (result : Instance) : Type 0 where
  pub id : ℕ
  pub named : Contains ids id
  pub lies : LiesByPosition cert id result

-- the handler returns at a rest, or each result lies in a named successor
pub record LeadsByPosition (cert : Cert) (next : List ℕ) (at : Instance) (step : Step) : Type 0 where
  pub back : step.back ≡ true → ReturnsAtRest cert (result_by_scanlines cert at step (first_exit step.exits.items))
  pub forth : step.back ≡ false → (exit : Exit) → Contains step.exits.items exit → LiesInOne cert next
      (result_by_scanlines cert at step exit)

-- A point at line l and count c: the instruction at its pc isn't SPM, an instance is there, whose abstract step in a frame of scanlines
-- isn't refused; main's instruction shows nothing outside, and any other emits as the schedule says; and the step leads as it may
pub record PassesByPosition (image : FinMap nat_cmp ℕ) (cert : Cert) (id l c : ℕ) (point : Point) : Type 0 where
  pub row : Instr
  pub reads : IsReadAt image point.pc (Some row)
  pub runs : is_stop (effect_of row) ≡ false
  pub at : Instance
  pub is : instance_by_position cert id l c ≡ Some at
  pub top : at.top ≡ scanline - 1
  pub temp : at.temp ≡ whole_byte
  pub step : Step
  pub steps : step_of_row cert.head (uniform (length cert.schedule.lines)) image (Some row) at ≡ Ok step
  pub unseen : row_emits_in_main (Some row) at ≡ false
  pub emits : at.kind ≢ Main → (exit : Exit) → Contains step.exits.items exit → EmitsByPosition cert.schedule at step.emit exit
  pub leads : LeadsByPosition cert point.next.items at step

-- All rules

-- each line begins with the fall of sync, rests and entry pass, and so does each point at each line and count of its box
pub record AcceptsOld (image : FinMap nat_cmp ℕ) (cert : Cert) : Type 0 where
  pub steady : IsSteady cert.schedule
  pub rests : (rest : Rest) → Contains cert.rests rest → RestByPosition cert rest
  pub entry : EntryByPosition cert
  pub points : (id l c : ℕ) (point : Point) → slice_get cert.points id ≡ Some point → is_in_box point l c ≡ true → PassesByPosition image
      cert id l c point
