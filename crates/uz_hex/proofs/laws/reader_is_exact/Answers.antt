use Rattle.uz_hex.proofs.Verdicts.{image_exact, fault_exact}
use Rattle.uz_hex.proofs.laws.reader_is_exact.Goals as goal

pub returns-clause-image : goal.returns-clause-image
returns-clause-image c = image_exact

pub returns-clause-fault : goal.returns-clause-fault
returns-clause-fault c = fault_exact
