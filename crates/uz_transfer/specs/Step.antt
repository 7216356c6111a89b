-- The abstract step of an instance: one draft of what becomes known, and the exits that lead there.
use Rattle.avr_decode.specs.Decoded.{Decoded}
use Rattle.avr_table.specs.Rows.{clocks_of, words_of}
use Rattle.avr_table.specs.declared.Instr.{Instr}
use Rattle.avr_table.specs.declared.Outcome.{Outcome}
use Rattle.std.specs.FinMap.{FinMap}
use Rattle.std.specs.Ordering.{nat_cmp}
use Rattle.std.specs.Prelude.{Bool, Err, List, None, Ok, Option, Result, Some, [], false, if◌then◌else◌, length, map, nat_eq, nat_le, not}
use Rattle.std.specs.Prelude.{true, ℕ, ◌%◌, ◌&&◌, ◌++◌, ◌+◌, ◌||◌, ◌∷◌, ◌≡◌}
use Rattle.uz_schedule.specs.Lines.{Lines, line_after, clock_after}
use Rattle.uz_schedule.specs.declared.header.Head.{Head}
use Rattle.uz_schedule.specs.declared.lines.EventKind.{EventKind}
use Rattle.uz_schedule.specs.declared.states.Instance.{Instance}
use Rattle.uz_hex.specs.Cells.{word_of}
use Rattle.uz_core.specs.Core.{returns_from_interrupt, sample_clock}
use Rattle.uz_core.specs.Effects.{effect_of}
use Rattle.uz_core.specs.declared.machine.Effect.{Effect}
use Rattle.uz_core.specs.declared.machine.Effect.TheVariants.{Store, WriteIoBit}
use Rattle.uz_range.specs.Answers.{is_single}
use Rattle.uz_transfer.specs.declared.fail.Fail.{Fail}
use Rattle.uz_transfer.specs.declared.fail.Fail.TheVariants.{Clock, Edge, Opcode}
use Rattle.uz_transfer.specs.declared.step.Exit.{Exit}
use Rattle.uz_transfer.specs.declared.step.Step.{Step}
use Rattle.uz_transfer.specs.Values.{value_at}
use Rattle.uz_transfer.specs.Compared.{compared_after, with_compared}
use Rattle.uz_transfer.specs.Narrowed.{test_of}
use Rattle.uz_transfer.specs.Kinds.{is_main, is_handler}
use Rattle.uz_transfer.specs.Memory.{address_range}
use Rattle.uz_transfer.specs.Timer.{temp_after, top_after, with_timer}
use Rattle.uz_transfer.specs.Transfer.{transfer}
use Rattle.uz_transfer.specs.Exits.{outcomes, targets}
use Rattle.uz_transfer.specs.Emission.{emission, level_after}
use Rattle.uz_transfer.specs.Refusals.{stored_bit, flag_is, fail_of}
use Rattle.uz_transfer.specs.InTime.{clock_holds}

abbrev pub exits_of : Effect → (Outcome → ℕ) → ℕ → Instance → List Outcome → List Exit
exits_of e clocks following inst [] = []
exits_of e clocks following inst (o ∷ os) = map (λ pc. record { pc = pc; clocks = clocks o }) (targets e o following inst)
    ++ exits_of e clocks following inst os

abbrev pub clears_flag : Effect → Instance → Bool
clears_flag (Store to r) inst = is_single (address_range to inst)
    && (nat_eq (address_range to inst).lo 0x36 && flag_is (stored_bit (value_at inst.regs r) 1) true)
clears_flag (WriteIoBit at b set) inst = nat_eq at 0x36 && (nat_eq b 1 && set)
clears_flag e inst = false

abbrev pub following_of : ℕ → Instance → ℕ
following_of words inst = (inst.pc + words) % 32768

-- the clock of a line of this length at which an instruction's loads sample
abbrev pub sampled_of : ℕ → Effect → (Outcome → ℕ) → Instance → ℕ
sampled_of length e clocks inst = (inst.clock + sample_clock e clocks) % length

-- what is known after an effect, wherever it leads; `length` is that of the instance's line
abbrev pub draft_of : Head → ℕ → FinMap nat_cmp ℕ → Effect → ℕ → (Outcome → ℕ) → Instance → Instance
draft_of head length image e words clocks inst =
    with_compared (compared_after head e inst) (with_timer (top_after e inst) (temp_after (sampled_of length e clocks inst) e inst)
    (transfer head image (following_of words inst) (sampled_of length e clocks inst) e inst))

-- where an effect leads
abbrev pub all_exits : FinMap nat_cmp ℕ → Effect → ℕ → (Outcome → ℕ) → Instance → List Exit
all_exits image e words clocks inst = exits_of e clocks (following_of words inst) inst (outcomes image (following_of words inst) e inst)

-- by why it is refused, what it emits, and whether the timer keeps time
abbrev pub step_unless : Option Fail → Option (Option EventKind) → Bool → Step → Result Step Fail
step_unless (Some why) emitted in_time step = Err why
step_unless None None in_time step = Err Edge
step_unless None (Some emitted) false step = Err Clock
step_unless None (Some emitted) true step = Ok (record step { emit = emitted })

-- an effect, with the words and, by outcome, the clocks of its row
abbrev pub step_of : Head → Lines → FinMap nat_cmp ℕ → Effect → ℕ → (Outcome → ℕ) → Instance → Result Step Fail
step_of head lines image e words clocks inst =
    step_unless (fail_of head e inst) (emission e inst) (clock_holds lines e inst (all_exits image e words clocks inst)) (record {
      draft = draft_of head (lines.length inst.line) image e words clocks inst;
      exits = record { items = all_exits image e words clocks inst };
      emit = None;
      back = returns_from_interrupt e;
      clears = clears_flag e inst;
      test = test_of head e inst;
    })

-- Places

-- whether clock k of line l lies past its end
abbrev pub ends_line : Lines → ℕ → ℕ → Bool
ends_line lines l k = nat_le (lines.length l) k

-- The instance at an exit: what is known after the instruction (the draft), where and when the exit is. `emitted` is what the instruction
-- emits, and `clears` whether it clears the match. Main keeps its line, clock and level, and a handler alone has a pending match
abbrev pub at_exit : Lines → Instance → Instance → Option EventKind → Bool → Exit → Instance
at_exit lines inst draft emitted clears exit = record draft {
  kind = inst.kind;
  pc = exit.pc;
  line = if is_main inst.kind then inst.line else line_after lines inst.line (inst.clock + exit.clocks);
  clock = if is_main inst.kind then inst.clock else clock_after lines inst.line (inst.clock + exit.clocks);
  level = if is_main inst.kind then inst.level else level_after emitted (inst.level % 2);
  pending = if is_handler inst.kind then not clears && (inst.pending || ends_line lines inst.line (inst.clock + exit.clocks)) else
      inst.pending;
}

abbrev pub successor : Lines → Instance → Step → Exit → Instance
successor lines inst step exit = at_exit lines inst step.draft step.emit step.clears exit

-- Which words are read at a pc

-- the words at a pc are read as this instruction, or as none. Word addresses go round the flash
abbrev pub IsReadAt : FinMap nat_cmp ℕ → ℕ → Option Instr → Type 0
IsReadAt image pc row = Decoded (word_of image (pc % 32768)) (word_of image ((pc + 1) % 32768)) row

abbrev pub step_of_row : Head → Lines → FinMap nat_cmp ℕ → Option Instr → Instance → Result Step Fail
step_of_row head lines image None inst = Err Opcode
step_of_row head lines image (Some i) inst = step_of head lines image (effect_of i) (words_of i) (clocks_of i) inst

-- the abstract step of an instance under its instruction
pub record IsStep (head : Head) (lines : Lines) (image : FinMap nat_cmp ℕ) (inst : Instance) (result : Result Step Fail) : Type 0 where
  pub row : Option Instr
  pub reads : IsReadAt image inst.pc row
  pub is : result ≡ step_of_row head lines image row inst
