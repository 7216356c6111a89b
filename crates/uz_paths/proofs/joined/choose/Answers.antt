use Rattle.std.proofs.Common.{◌∙◌, refl}
use Rattle.uz_paths.specs.JoinedParts.{joined_cert}
use Rattle.uz_paths.proofs.joined.choose.Goals as goal

pub returns-then-accepted-clause-cert : goal.returns-then-accepted-clause-cert
returns-then-accepted-clause-cert c = λ i. record (joined_cert c.args.program c.args.parts) {
  head = c.take_head.ensures.head i;
  points = c.split_points-points.ensures i;
}

pub returns-then-accepted-clause-fits : goal.returns-then-accepted-clause-fits
returns-then-accepted-clause-fits c = c.if-accepted.ensures.fits refl

pub returns-then-accepted-clause-accepted : goal.returns-then-accepted-clause-accepted
returns-then-accepted-clause-accepted c = c.if-accepted.ensures.accepted refl

pub returns-else-accepted-clause-same : goal.returns-else-accepted-clause-same
returns-else-accepted-clause-same c =
    let head = c.swap.ensures.x_after ∙ c.take_head.ensures.head in λ i. record (c.take_head.ensures.rest i) { head = head i }
