-- What the limits of a certificate give of its instances.
use Rattle.std.specs.Prelude.{◌≡◌, ◌+◌, ◌<◌, ◌≤◌, All, IsTrue, length, Some}
use Rattle.uz_schedule.specs.WellFormed.{RangeFits, BitFits}
use Rattle.uz_schedule.specs.Limits.{is_top}
use Rattle.uz_schedule.specs.Tracked.{tracked, depth_of}
use Rattle.uz_schedule.specs.Schedule.{length_of, start_of, level_at}
use Rattle.uz_schedule.specs.declared.kinds.Kind.{Kind}
use Rattle.uz_schedule.specs.declared.kinds.Kind.TheVariants.{Handler}
use Rattle.uz_schedule.specs.declared.facts.Val.{Val}
use Rattle.uz_schedule.specs.declared.facts.Val.TheVariants.{Range, Old, OldFlags}
use Rattle.uz_schedule.specs.declared.states.Instance.{Instance}
use Rattle.uz_schedule.specs.declared.certificate.Cert.{Cert}

-- a range of bytes; interrupted values are known in handlers alone
abbrev pub ValFits : Kind → Val → Type 0
ValFits kind (Range e) = RangeFits 255 e
ValFits kind (Old r) = (kind ≡ Handler) × (r < 32)
ValFits kind OldFlags = kind ≡ Handler

pub record InstanceFits (cert : Cert) (inst : Instance) : Type 0 where
  pub pc : inst.pc < 32768
  pub line : inst.line < length cert.schedule.lines
  pub clock : inst.clock < length_of cert.schedule inst.line
  pub level : level_at cert.schedule (start_of cert.schedule inst.line + inst.clock) ≡ Some inst.level
  pub top : IsTrue (is_top inst.top)
  pub temp : RangeFits 255 inst.temp
  pub register_count : length inst.regs ≡ 32
  pub registers : All (ValFits inst.kind) inst.regs
  pub pairs : length inst.pairs ≡ 3
  pub flag_count : length inst.flags ≡ 7
  pub flags : All (BitFits inst.kind) inst.flags
  pub slots : length inst.stack.items ≤ depth_of cert.head inst.kind
  pub stack : All (ValFits inst.kind) inst.stack.items
  pub cells : length inst.cells.items ≡ length (tracked cert.head inst.kind)
