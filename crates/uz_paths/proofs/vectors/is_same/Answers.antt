use Rattle.std.proofs.Common.{◌≡◌, ◌∙◌, sym, subst, true}
use Rattle.uz_schedule.specs.contracts.states.InstancePartialEq as instances
use Rattle.uz_schedule.specs.contracts.states.InstanceEq.TheImpl.Laws.{laws-law}
use Rattle.uz_paths.proofs.vectors.is_same.Goals as goal

pub returns : goal.returns
returns c =
    let e = c.eq.ensures in (
      λ yes. c.equal_instances_are_one.ensures c.args.a.now c.args.b.now (sym e ∙ yes),
      λ same. e ∙ subst (λ b. (instances.TheImpl.ghosts).eq c.args.a.now b ≡ true) same (laws-law.refl c.args.a.now),
    )
