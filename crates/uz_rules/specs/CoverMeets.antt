-- A state that meets a result which passes meets one that lies in an instance of a named successor.
use Rattle.std.specs.Prelude.{List, Option, Some, true, ℕ, ◌≡◌}
use Rattle.uz_schedule.specs.declared.certificate.Cert.{Cert}
use Rattle.uz_schedule.specs.declared.header.Head.{Head}
use Rattle.uz_schedule.specs.declared.states.Instance.{Instance}
use Rattle.uz_core.specs.Core.{Core}
use Rattle.uz_core.specs.CoreRange.{IsCore}
use Rattle.uz_core.specs.PadLine.{PadHistory}
use Rattle.uz_core.specs.Turn.{State}
use Rattle.uz_transfer.specs.Narrowed.{with_left}
use Rattle.uz_transfer.specs.declared.narrowing.Left.{Left}
use Rattle.uz_rules.specs.Local.{passes}
use Rattle.uz_rules.specs.Meets.{Meets}
use Rattle.uz_rules.specs.Successors.{lies_in_any}

-- with what is left of registers and pairs where the register of a cover has the state's own value; all of them, without a cover
pub record MeetsOne (head : Head) (cert : Cert) (next : List ℕ) (result : Instance) (o : Core) (d : ℕ) (s : State PadHistory) : Type 0 where
  pub left : Left
  pub lies : lies_in_any cert next (with_left left result) ≡ true
  pub meets : Meets head (with_left left result) o d s

abbrev pub CoverMeets : Type 0
CoverMeets =
    (head : Head) (cert : Cert) (next : List ℕ) (split : Option ℕ) (result : Instance) (o : Core) (d : ℕ) (s : State PadHistory)
    → IsCore s.core → passes cert next split (Some result) ≡ true → Meets head result o d s → MeetsOne head cert next result o d s
