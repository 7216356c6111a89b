use Rattle.uz_player.proofs.CallLaws.{taken_by}
use Rattle.uz_player.proofs.play.Play.pads_taken.Goals as goal

pub returns-clause-stands : goal.returns-clause-stands
returns-clause-stands c = taken_by c.args.self.now c.pads_left.result c.saturating_sub.result c.pads_left.ensures.exact
    c.saturating_sub.ensures
