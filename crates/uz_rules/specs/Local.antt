-- The local rule: why an instance of a point is refused; the least reason that stands is named (this project's profile).
use Rattle.std.specs.Prelude.{◌≡◌, ℕ, ◌+◌, ◌-◌, ◌^◌, min, Bool, true, false, not, ◌&&◌, ◌||◌, List, [], ◌∷◌, Option, Some, None, Result, Ok}
use Rattle.std.specs.Prelude.{Err, slice_get, nat_eq, if◌then◌else◌}
use Rattle.std.specs.Ordering.{nat_cmp}
use Rattle.std.specs.FinMap.{FinMap}
use Rattle.avr_table.specs.declared.Instr.{Instr}
use Rattle.uz_core.specs.Effects.{effect_of}
use Rattle.uz_core.specs.declared.machine.Effect.{Effect}
use Rattle.uz_core.specs.declared.machine.Effect.TheVariants.{Stop}
use Rattle.uz_schedule.specs.declared.states.Instance.{Instance}
use Rattle.uz_schedule.specs.declared.states.Point.{Point}
use Rattle.uz_schedule.specs.declared.states.Rest.{Rest}
use Rattle.uz_schedule.specs.declared.certificate.Cert.{Cert}
use Rattle.uz_schedule.specs.Lines.{order_of}
use Rattle.uz_schedule.specs.Instances.{instance_at}
use Rattle.uz_transfer.specs.declared.fail.Fail.{Fail}
use Rattle.uz_transfer.specs.declared.fail.Fail.TheVariants.{Opcode, Box, Edge, Clock, Successor, Restore}
use Rattle.uz_transfer.specs.declared.step.Exit.{Exit}
use Rattle.uz_transfer.specs.declared.step.Step.{Step}
use Rattle.uz_transfer.specs.Kinds.{is_main}
use Rattle.uz_transfer.specs.Narrowed.{narrowed}
use Rattle.uz_transfer.specs.Refusals.{refuse_if}
use Rattle.uz_transfer.specs.Step.{IsReadAt, step_of_row, successor}
use Rattle.uz_rules.specs.Inside.{cells_inside, restored}
use Rattle.uz_rules.specs.EdgeRule.{position_of, each_exit, edges_fit}
use Rattle.uz_rules.specs.Cover.{covered_by}
use Rattle.uz_rules.specs.Successors.{lies_in_any}
use Rattle.uz_transfer.specs.Emission.{main_emits}

-- Words

abbrev pub is_stop : Effect → Bool
is_stop Stop = true
is_stop e = false

-- no row is read, or it is SPM
abbrev pub is_no_opcode : Option Instr → Bool
is_no_opcode None = true
is_no_opcode (Some i) = is_stop (effect_of i)

-- main's instruction stores what is seen outside
abbrev pub row_emits_in_main : Option Instr → Instance → Bool
row_emits_in_main None inst = false
row_emits_in_main (Some i) inst = is_main inst.kind && main_emits (effect_of i) inst

-- A return from the handler

-- the rest of a line
abbrev pub rest_in : List Rest → ℕ → Option Rest
rest_in [] line = None
rest_in (rest ∷ rests) line = if nat_eq rest.line line then Some rest else rest_in rests line

-- the line has a rest, at whose clock the return ends; and what was interrupted is restored, each handler cell in its range there
abbrev pub return_fail : Option Rest → Instance → Option Fail
return_fail None end = Some Clock
return_fail (Some rest) end =
    refuse_if (not (nat_eq end.clock rest.clock)) Clock
    (refuse_if (not (restored end && cells_inside end.cells.items rest.cells.items)) Restore None)

-- a return has one exit
abbrev pub first_exit : List Exit → Exit
first_exit [] = record { pc = 0; clocks = 0 }
first_exit (exit ∷ exits) = exit

abbrev pub end_of : Cert → Instance → Step → Instance
end_of cert inst step = successor (order_of cert.schedule) inst step (first_exit step.exits.items)

-- Results

-- no state goes there, or the result lies in an instance of a named successor, or is covered by the values of the point's register
abbrev pub passes : Cert → List ℕ → Option ℕ → Option Instance → Bool
passes cert next split None = true
passes cert next split (Some result) = lies_in_any cert next result || covered_by cert next split result

-- each result passes, narrowed by what its exit tells
abbrev pub has_successors : Cert → List ℕ → Option ℕ → Instance → Step → Bool
has_successors cert next split inst step =
    each_exit (λ exit. passes cert next split (narrowed step.test exit (successor (order_of cert.schedule) inst step exit)))
    step.exits.items

abbrev pub result_fail : Cert → List ℕ → Option ℕ → Instance → Step → Option Fail
result_fail cert next split inst step =
    if step.back then return_fail (rest_in cert.rests (end_of cert inst step).line) (end_of cert inst step)
    else refuse_if (not (has_successors cert next split inst step)) Successor None

-- what main emits isn't compared with the schedule
abbrev pub compares_edges : Cert → Instance → Step → Bool
compares_edges cert inst step =
    is_main inst.kind || edges_fit cert.schedule (position_of cert.schedule inst) step.emit step.exits.items

-- The rule

abbrev pub step_fail : Cert → List ℕ → Option ℕ → Instance → Bool → Result Step Fail → Option Fail
step_fail cert next split inst emits (Err why) = Some why
step_fail cert next split inst emits (Ok step) =
    refuse_if emits Edge (refuse_if (not (compares_edges cert inst step)) Edge (result_fail cert next split inst step))

abbrev pub instance_fail : FinMap nat_cmp ℕ → Cert → List ℕ → Option ℕ → Option Instr → Option Instance → Option Fail
instance_fail image cert next split row None = Some Box
instance_fail image cert next split row (Some inst) =
    step_fail cert next split inst (row_emits_in_main row inst) (step_of_row cert.head (order_of cert.schedule) image row inst)

abbrev pub local_fail : FinMap nat_cmp ℕ → Cert → List ℕ → Option ℕ → Option Instr → Option Instance → Option Fail
local_fail image cert next split row inst = refuse_if (is_no_opcode row) Opcode (instance_fail image cert next split row inst)

-- why point id is refused at line l and count c: None where it isn't
pub record IsLocal (image : FinMap nat_cmp ℕ) (cert : Cert) (id l c : ℕ) (why : Option Fail) : Type 0 where
  pub point : Point
  pub is_point : slice_get cert.points id ≡ Some point
  pub row : Option Instr
  pub reads : IsReadAt image point.pc row
  pub is : why ≡ local_fail image cert point.next.items point.split row (instance_at cert id l c)

-- there is one answer
abbrev pub OneLocal : Type 0
OneLocal = (image : FinMap nat_cmp ℕ) (cert : Cert) (id l c : ℕ) (a b : Option Fail) → IsLocal image cert id l c a → IsLocal image cert id l
    c b → a ≡ b

-- the reason in an answer
abbrev pub reason : {A : Type 0} → Result A Fail → Option Fail
reason (Ok x) = None
reason (Err why) = Some why

-- a count of calls, one more. It stays at the greatest number of 64 bits
abbrev pub counted : ℕ → ℕ
counted n = min (n + 1) (2 ^ 64 - 1)
