use Rattle.uz_hex.proofs.Verdicts.{text_decided, one_image, one_fault, not_both}
use Rattle.uz_hex.proofs.laws.hex_or_fault.Goals as goal

pub returns-clause-either : goal.returns-clause-either
returns-clause-either c = text_decided

pub returns-clause-one_image : goal.returns-clause-one_image
returns-clause-one_image c = one_image

pub returns-clause-one_fault : goal.returns-clause-one_fault
returns-clause-one_fault c = one_fault

pub returns-clause-not_both : goal.returns-clause-not_both
returns-clause-not_both c = not_both
