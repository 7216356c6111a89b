-- Which pairs of an image and a certificate are accepted.
use Rattle.std.specs.Prelude.{◌≡◌, Contains, ℕ, true, None, Some, slice_get}
use Rattle.std.specs.Ordering.{nat_cmp}
use Rattle.std.specs.FinMap.{FinMap}
use Rattle.uz_schedule.specs.Instances.{is_in_box}
use Rattle.uz_schedule.specs.declared.states.Rest.{Rest}
use Rattle.uz_schedule.specs.declared.states.Point.{Point}
use Rattle.uz_schedule.specs.declared.certificate.Cert.{Cert}
use Rattle.uz_rules.specs.Local.{IsLocal}
use Rattle.uz_check.specs.Steady.{IsSteady}
use Rattle.uz_check.specs.FrameRules.{RestPasses, EntryPasses}

-- the frame rules hold, and at each line and count of each point's box the local rule refuses nothing
pub record Accepts (image : FinMap nat_cmp ℕ) (cert : Cert) : Type 0 where
  pub steady : IsSteady cert.schedule
  pub rests : (rest : Rest) → Contains cert.rests rest → RestPasses cert rest
  pub entry : EntryPasses cert
  pub points : (id l c : ℕ) (point : Point) → slice_get cert.points id ≡ Some point → is_in_box point l c ≡ true → IsLocal image cert id l c
      None
