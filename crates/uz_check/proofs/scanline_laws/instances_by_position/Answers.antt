use Rattle.uz_check.proofs.Positions.{instance_is}
use Rattle.uz_check.proofs.scanline_laws.instances_by_position.Goals as goal

pub returns : goal.returns
returns c = instance_is
