-- A state and an instance that containment speaks of: NOP at address 0 after a reset, and the instance that says nothing.
use Rattle.std.specs.FinMap.{FinMap}
use Rattle.std.specs.Ordering.{nat_cmp}
use Rattle.std.specs.Prelude.{[], ℕ, ◌≡◌}
use Rattle.uz_schedule.specs.declared.header.Head.{Head}
use Rattle.uz_schedule.specs.declared.kinds.Response.TheVariants.{Four}
use Rattle.uz_schedule.specs.declared.kinds.RuleVersion.TheVariants.{Two}
use Rattle.uz_hex.specs.Cells.{IsFlash, word_of}
use Rattle.uz_core.specs.Core.{reset_core}
use Rattle.uz_core.specs.Turn.{history_at_reset, state_at_reset}
use Rattle.uz_transfer.specs.declared.step.Step.{Step}
use Rattle.uz_schedule.specs.Blank.{blank_instance}
use Rattle.uz_schedule.specs.Lines.{Lines}
use Rattle.uz_rules.specs.OneStep.{InstructionBegins}

abbrev pub example_head : Head
example_head = record { irq = Four; lo = 256; hi = 4351; main = 0; handler = 0; cells = record { items = [] }; version = Two }

-- whatever the lines
abbrev pub SomeInstructionBegins : Type 0
SomeInstructionBegins = (lines : Lines) (image : FinMap nat_cmp ℕ) → IsFlash image → word_of image 0 ≡ 0 → word_of image 1 ≡ 0
    → (step : Step)
    × InstructionBegins example_head lines image blank_instance reset_core 0 step (state_at_reset image (history_at_reset []) 4)
