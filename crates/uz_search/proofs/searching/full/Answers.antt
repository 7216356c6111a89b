use Rattle.uz_search.proofs.TrailLaws.{on_trails}
use Rattle.uz_search.proofs.searching.full.Goals as goal

pub returns : goal.returns
returns c = λ image p tree.
    on_trails image p c.args.found.nodes.keys c.first.result c.args.found.parents.items c.args.limit tree c.requires.many
    c.first.ensures.first c.first.ensures.distinct
