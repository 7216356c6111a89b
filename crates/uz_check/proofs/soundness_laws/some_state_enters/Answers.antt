use Rattle.uz_check.proofs.AcceptedPremises.{some_enters}
use Rattle.uz_check.proofs.soundness_laws.some_state_enters.Goals as goal

pub returns : goal.returns
returns c = some_enters
