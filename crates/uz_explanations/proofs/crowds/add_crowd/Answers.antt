use Rattle.std.proofs.Common.{refl}
use Rattle.uz_explanations.specs.Counting.{crowd}
use Rattle.uz_explanations.proofs.Lines.{crowd_told}
use Rattle.uz_explanations.proofs.crowds.add_crowd.Goals as goal

pub returns : goal.returns
returns c = crowd_told _ _ _ c.args.instances.now (crowd c.args.crowd.pc c.args.instances.now) c.args.crowd c.in_ok-add_head.ensures refl
    c.in_ok-add_differing.ensures
