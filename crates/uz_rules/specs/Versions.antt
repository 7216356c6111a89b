-- What a certificate of version 2 is judged by.
use Rattle.std.specs.FinMap.{FinMap}
use Rattle.std.specs.Ordering.{nat_cmp}
use Rattle.std.specs.Prelude.{Ok, ℕ, ◌≡◌}
use Rattle.uz_schedule.specs.Lines.{Lines}
use Rattle.uz_schedule.specs.declared.facts.Compared.TheVariants.{Nothing}
use Rattle.uz_schedule.specs.declared.header.Head.{Head}
use Rattle.uz_schedule.specs.declared.kinds.RuleVersion.TheVariants.{Two}
use Rattle.uz_schedule.specs.declared.states.Instance.{Instance}
use Rattle.uz_transfer.specs.Step.{IsStep}
use Rattle.uz_transfer.specs.declared.step.Step.{Step}
use Rattle.uz_transfer.specs.declared.step.Test.TheVariants as test

-- by the rules of version 2 no instruction tells of a comparison, whatever is known before it, and no exit narrows what is known
abbrev pub VersionTwoStays : Type 0
VersionTwoStays =
    (head : Head) (lines : Lines) (image : FinMap nat_cmp ℕ) (inst : Instance) (step : Step) → head.version ≡ Two
    → IsStep head lines image inst (Ok step) → (step.draft.compared ≡ Nothing) × (step.test ≡ test.Nothing)
