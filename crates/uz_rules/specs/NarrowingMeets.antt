-- What is left of an instance at an exit is met by each core that goes there.
use Rattle.std.specs.Prelude.{Bool, None, Option, Some, ℕ, ◌<◌, ◌≡◌}
use Rattle.uz_schedule.specs.declared.facts.Compared.{Compared}
use Rattle.uz_schedule.specs.declared.states.Instance.{Instance}
use Rattle.uz_core.specs.Arithmetic.{bit_is_set}
use Rattle.uz_core.specs.Core.{Core}
use Rattle.uz_core.specs.CoreRange.{IsCore}
use Rattle.uz_transfer.specs.Narrowed.{left_of, narrowed_by, with_left}
use Rattle.uz_transfer.specs.declared.narrowing.Left.{Left}
use Rattle.uz_rules.specs.ComparedHolds.{ComparedHolds}
use Rattle.uz_rules.specs.CoreMeets.{CoreMeets}

-- a core meets the instance with the registers and pairs that are left; none does where nothing is left
abbrev pub LeftMeets : Option Left → Instance → Core → Core → Type 0
LeftMeets None inst o s = ⊥
LeftMeets (Some left) inst o s = CoreMeets (with_left left inst) o s

-- where flag k is set or clear in SREG
abbrev pub NarrowingMeets : Type 0
NarrowingMeets =
    (c : Compared) (k : ℕ) (b : Bool) (inst : Instance) (o s : Core) → k < 5 → IsCore s → CoreMeets inst o s → ComparedHolds c s
    → bit_is_set s.sreg k ≡ b → LeftMeets (narrowed_by c k b (left_of inst)) inst o s
