use Rattle.std.proofs.Common.{refl}
use Rattle.uz_player.proofs.PlayerLaws.{begins}
use Rattle.uz_player.proofs.player.Player.new.Goals as goal

pub returns-clause-plays : goal.returns-clause-plays
returns-clause-plays c = λ start stands. begins _ start stands c.requires.fits c.requires.clock c.new-2.ensures refl c.new.ensures.entered
    c.new.ensures.seen c.new.ensures.clock
