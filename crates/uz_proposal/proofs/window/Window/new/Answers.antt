use Rattle.std.proofs.Common.{refl}
use Rattle.uz_proposal.proofs.WindowLemmas.{tells_none}
use Rattle.uz_proposal.proofs.window.Window.new.Goals as goal

pub returns : goal.returns
returns c =
    tells_none c.args.handling _ c.new.ensures.items c.new-2.ensures.items c.in_ok-no_extents.ensures c.in_ok-no_extents-2.ensures refl refl refl
