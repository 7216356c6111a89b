-- The abstract results of an instance under its instruction (this project's profile).
use Rattle.std.specs.Prelude.{◌≡◌, ℕ, List, [], ◌∷◌, ◌++◌, Option, Some, None, Result, Ok, Err}
use Rattle.std.specs.Ordering.{nat_cmp}
use Rattle.std.specs.FinMap.{FinMap}
use Rattle.avr_table.specs.declared.Instr.{Instr}
use Rattle.uz_schedule.specs.declared.header.Head.{Head}
use Rattle.uz_schedule.specs.declared.lines.EventKind.{EventKind}
use Rattle.uz_schedule.specs.declared.states.Instance.{Instance}
use Rattle.uz_schedule.specs.Lines.{Lines}
use Rattle.uz_transfer.specs.declared.fail.Fail.{Fail}
use Rattle.uz_transfer.specs.declared.step.Exit.{Exit}
use Rattle.uz_transfer.specs.declared.step.Step.{Step}
use Rattle.uz_transfer.specs.Narrowed.{narrowed}
use Rattle.uz_transfer.specs.Step.{IsReadAt, step_of_row, successor}
use Rattle.uz_rules.specs.declared.next.Next.{Next}
use Rattle.uz_rules.specs.Local.{first_exit}

-- what is emitted, with its clock: the end of the instruction, which has one exit
abbrev pub timed : Option EventKind → ℕ → Option (ℕ × EventKind)
timed None clocks = None
timed (Some kind) clocks = Some (clocks, kind)

abbrev pub if_there : Option Instance → List Instance
if_there None = []
if_there (Some result) = result ∷ []

-- what is known at each exit, narrowed by what it tells; nothing where no state goes there
abbrev pub results_of : Lines → Instance → Step → List Exit → List Instance
results_of lines inst step [] = []
results_of lines inst step (exit ∷ exits) =
    if_there (narrowed step.test exit (successor lines inst step exit)) ++ results_of lines inst step exits

abbrev pub next_of : Lines → Instance → Result Step Fail → Result Next Fail
next_of lines inst (Err why) = Err why
next_of lines inst (Ok step) = Ok (record {
  emit = timed step.emit (first_exit step.exits.items).clocks;
  back = step.back;
  out = record { items = results_of lines inst step step.exits.items };
})

-- the abstract results of an instance, under the row that is read at its pc, or the least reason why there are none
pub record IsAfter (head : Head) (lines : Lines) (image : FinMap nat_cmp ℕ) (inst : Instance) (result : Result Next Fail) : Type 0 where
  pub row : Option Instr
  pub reads : IsReadAt image inst.pc row
  pub is : result ≡ next_of lines inst (step_of_row head lines image row inst)
