use Rattle.uz_schedule.specs.Exact.{exact_instance}
use Rattle.uz_schedule.proofs.laws.equal_instances_are_one.Goals as goal

pub returns : goal.returns
returns c a b h = exact_instance a b h
