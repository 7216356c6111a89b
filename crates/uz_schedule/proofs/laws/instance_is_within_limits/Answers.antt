use Rattle.uz_schedule.proofs.Fitting.{instance_fits}
use Rattle.uz_schedule.proofs.laws.instance_is_within_limits.Goals as goal

pub returns : goal.returns
returns c = instance_fits
