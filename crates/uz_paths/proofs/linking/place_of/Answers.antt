use Rattle.uz_schedule.specs.contracts.states.InstanceEq.TheImpl.Laws.{laws-law}
use Rattle.uz_paths.proofs.LinkLemmas.{place_some, place_none}
use Rattle.uz_paths.proofs.linking.place_of.Goals as goal

pub returns-in-Some : goal.returns-in-Some
returns-in-Some c = place_some _ c.args.nodes.now.keys c.args.at.now c.in-Some.i c.in-Some.ensures.index
    (λ y e. c.equal_instances_are_one.ensures c.args.at.now y e)

pub returns-in-None : goal.returns-in-None
returns-in-None c = absurd (place_none _ c.args.nodes.now.keys c.args.at.now c.requires.0 c.in-None.ensures.index
    (laws-law.refl c.args.at.now) c.requires.1)
