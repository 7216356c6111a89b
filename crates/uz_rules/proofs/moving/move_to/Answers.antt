use Rattle.uz_rules.proofs.Common.{◌∙◌}
use Rattle.uz_rules.proofs.MovingLaws.{moved_is}
use Rattle.uz_rules.proofs.moving.move_to.Goals as goal

pub returns : goal.returns
returns c =
    c.put_varying.ensures
    ∙ moved_is c.args.point.now c.args.varying.now c.args.line c.args.count c.args.clock c.args.level c.args.at.now c.requires.varying
    c.requires.kept
