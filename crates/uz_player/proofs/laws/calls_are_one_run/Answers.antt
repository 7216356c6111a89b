use Rattle.uz_player.proofs.CallRuns.{one_run}
use Rattle.uz_player.proofs.laws.calls_are_one_run.Goals as goal

pub returns : goal.returns
returns c = one_run
