use Rattle.uz_paths.proofs.FindLemmas.{found_unhinted, refused_alike}
use Rattle.uz_paths.proofs.finding.find_alone.Goals as goal

pub returns-in-Ok-clause-hint : goal.returns-in-Ok-clause-hint
returns-in-Ok-clause-hint c = λ index refused. found_unhinted c.in-Ok.cert c.unwrap.result index (c.in-Ok.ensures.hint index refused)

pub returns-in-Err-clause-hint : goal.returns-in-Err-clause-hint
returns-in-Err-clause-hint c = λ index refused. refused_alike c.in-Err.why index (c.in-Err.ensures.hint index refused)
