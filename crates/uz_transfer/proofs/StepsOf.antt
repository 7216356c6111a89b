-- The abstract step, of the row that is read or of none.
use Rattle.std.proofs.Common.{◌≡◌, ℕ, ◌+◌, ◌%◌, Some, None, ◌∙◌, ap, subst, arith}
use Rattle.std.specs.Prelude.{Result, Err}
use Rattle.std.specs.Ordering.{nat_cmp}
use Rattle.std.specs.FinMap.{FinMap}
use Rattle.uz_hex.specs.Cells.{word_of}
use Rattle.avr_table.specs.declared.Instr.{Instr}
use Rattle.avr_table.specs.Rows.{Reads, words_of, clocks_of}
use Rattle.uz_core.specs.Effects.{effect_of}
use Rattle.uz_schedule.specs.Lines.{Lines}
use Rattle.uz_schedule.specs.declared.header.Head.{Head}
use Rattle.uz_schedule.specs.declared.states.Instance.{Instance}
use Rattle.uz_transfer.specs.declared.fail.Fail.{Fail}
use Rattle.uz_transfer.specs.declared.fail.Fail.TheVariants.{Opcode}
use Rattle.uz_transfer.specs.declared.step.Step.{Step}
use Rattle.uz_transfer.specs.Step.{step_of, IsStep}

steps_some : (head : Head) (lines : Lines) (image : FinMap nat_cmp ℕ) (inst : Instance) (result : Result Step Fail) (i : Instr)
    → Reads (word_of image (inst.pc % 32768)) (word_of image ((inst.pc + 1) % 32768)) i
    → result ≡ step_of head lines image (effect_of i) (words_of i) (clocks_of i) inst → IsStep head lines image inst result
steps_some head lines image inst result i reads e = record { row = Some i; reads = record { found = reads; none = tt }; is = e }

pub steps_none : (head : Head) (lines : Lines) (image : FinMap nat_cmp ℕ) (inst : Instance) (result : Result Step Fail)
    → ((i : Instr) → Reads (word_of image (inst.pc % 32768)) (word_of image ((inst.pc + 1) % 32768)) i → ⊥)
    → result ≡ Err Opcode → IsStep head lines image inst result
steps_none head lines image inst result none e = record { row = None; reads = record { found = tt; none = none }; is = e }

-- the words were read at the pc, and at the one after it
pub steps_read : (head : Head) (lines : Lines) (image : FinMap nat_cmp ℕ) (inst : Instance) (result : Result Step Fail) (i : Instr)
    (here next first second : ℕ) → here ≡ (inst.pc + 0) % 32768 → next ≡ (inst.pc + 1) % 32768 → first ≡ word_of image here
    → second ≡ word_of image next → Reads first second i
    → result ≡ step_of head lines image (effect_of i) (words_of i) (clocks_of i) inst → IsStep head lines image inst result
steps_read head lines image inst result i here next first second at_here at_next is_first is_second reads e =
    let same : inst.pc + 0 ≡ inst.pc = omega arith in
    let one : first ≡ word_of image (inst.pc % 32768) = is_first ∙ ap (word_of image) (at_here ∙ ap (λ n. n % 32768) same) in
    let two : second ≡ word_of image ((inst.pc + 1) % 32768) = is_second ∙ ap (word_of image) at_next in
    steps_some head lines image inst result i
    (subst (λ w. Reads (word_of image (inst.pc % 32768)) w i) two (subst (λ w. Reads w second i) one reads)) e
