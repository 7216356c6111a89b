use Rattle.uz_player.proofs.PadRunLaws.{runs_alike}
use Rattle.uz_player.proofs.laws.run_depends_on_latched_pairs.Goals as goal

pub returns : goal.returns
returns c = runs_alike
