-- What a certificate's limits and orders give of its header and of each instance.
use Rattle.std.specs.Prelude.{◌≡◌, ℕ, ◌<◌, ◌≤◌, length, Some}
use Rattle.uz_schedule.specs.declared.states.Instance.{Instance}
use Rattle.uz_schedule.specs.declared.certificate.Cert.{Cert}
use Rattle.uz_schedule.specs.Schedule.{scanline, length_of}
use Rattle.uz_schedule.specs.Instances.{instance_at}
use Rattle.uz_schedule.specs.WellFormed.{WellFormed}
use Rattle.uz_transfer.specs.Kinds.{depth_limit}
use Rattle.uz_transfer.specs.Memory.{depth_of}
use Rattle.uz_rules.specs.MemoryMeets.{HeadFits}
use Rattle.uz_rules.specs.Meets.{InstanceFits}

pub record InstanceLimits (cert : Cert) (inst : Instance) : Type 0 where
  pub pc : inst.pc < 32768
  pub line : inst.line < length cert.schedule.lines
  pub clock : inst.clock < length_of cert.schedule inst.line
  pub short : length_of cert.schedule inst.line ≤ scanline
  pub limit : depth_limit cert.head inst.kind ≤ 32
  pub slots : depth_of inst ≤ 32
  pub cells : length inst.cells.items ≤ 16
  pub fits : InstanceFits cert.head inst

-- the premises of containment that speak of the header and of the instance
abbrev pub LimitsGive : Type 0
LimitsGive =
    (cert : Cert) → WellFormed cert
    → HeadFits cert.head × ((id l c : ℕ) (inst : Instance) → instance_at cert id l c ≡ Some inst → InstanceLimits cert inst)
