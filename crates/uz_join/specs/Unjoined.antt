-- Why a certificate isn't joined.
use Rattle.std.specs.Prelude.{⊤}
use Rattle.uz_hex.specs.Reading.{Flash}
use Rattle.uz_schedule.specs.WellFormed.{WellFormed}
use Rattle.uz_schedule.specs.declared.certificate.Cert.{Cert}
use Rattle.uz_check.specs.Acceptance.{Accepts}
use Rattle.uz_join.specs.Same.{SameInstances}
use Rattle.uz_join.specs.Joined.{SameButPoints}
use Rattle.uz_join.specs.declared.choice.Unjoined.{Unjoined}
use Rattle.uz_join.specs.declared.choice.Unjoined.TheVariants.{Memory, Refused}

-- a joined certificate says what this one says, and isn't one that is well formed and accepted
pub record IsRefusedSo (image : Flash) (cert joined : Cert) : Type 0 where
  pub same : SameButPoints cert joined
  pub instances : SameInstances cert.points joined.points
  pub refused : WellFormed joined → Accepts image joined → ⊥

-- the cause of each answer; memory may lack
abbrev pub IsUnjoined : Flash → Cert → Unjoined → Type 0
IsUnjoined image cert Memory = ⊤
IsUnjoined image cert (Refused joined) = IsRefusedSo image cert joined
