-- How a run ended.
use Rattle.uz_player.specs.declared.ending.Ending.{Ending}
use Rattle.uz_player.specs.declared.ending.Ending.TheVariants as ending
use Rattle.uz_player.specs.declared.player.Played.{Played}
use Rattle.uz_player.specs.declared.player.Played.TheVariants.{Over, Stopped}

-- the answer at a run's end
abbrev pub played_of : Ending → Played
played_of ending.Over = Over
played_of (ending.Stopped pc word) = Stopped pc word
