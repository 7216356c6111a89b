use Rattle.uz_schedule.specs.contracts.states.InstanceEq.TheImpl.Laws.{laws-law}
use Rattle.uz_search.proofs.TrailLaws.{one_place}
use Rattle.uz_schedule.specs.contracts.states.InstancePartialEq as instances
use Rattle.uz_search.proofs.instances.Instances.first.Goals as goal

pub returns-clause-distinct : goal.returns-clause-distinct
returns-clause-distinct c =
    λ i j x. one_place (instances.TheImpl.eq-value).it laws-law.refl c.truncate.new.self.keys c.truncate.ensures.unique i j x
