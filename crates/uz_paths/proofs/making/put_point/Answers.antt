use Rattle.std.proofs.Common.{◌∙◌, ◌∷◌, ◌++◌, [], ap}
use Rattle.uz_join.specs.Points.{point_of as point_for}
use Rattle.uz_paths.proofs.making.put_point.Goals as goal

pub returns-clause-own : goal.returns-clause-own
returns-clause-own c = λ low list there.
    c.in_ok-push.ensures.items ∙ ap (λ p. c.args.points.now.items ++ p ∷ []) (c.point_of.ensures.is
    ∙ ap (λ l. point_for c.args.at.now l) (c.list_at.ensures list there))
