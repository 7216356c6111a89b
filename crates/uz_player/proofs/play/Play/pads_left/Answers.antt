use Rattle.uz_player.proofs.play.Play.pads_left.Goals as goal

pub returns : goal.returns
returns c = λ s seen at some. c.pads_left.ensures.stands s at.stands some
