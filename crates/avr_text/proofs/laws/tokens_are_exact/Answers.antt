use Rattle.avr_text.proofs.FaultsCut.{cut_spelled, cut_faulty}
use Rattle.avr_text.proofs.laws.tokens_are_exact.Goals as goal

pub returns-clause-tokens : goal.returns-clause-tokens
returns-clause-tokens c = cut_spelled

pub returns-clause-fault : goal.returns-clause-fault
returns-clause-fault c = cut_faulty
