use Rattle.avr_text.proofs.KeptValues.{value_kept}
use Rattle.avr_text.proofs.laws.value_is_kept.Goals as goal

pub returns : goal.returns
returns c = value_kept
