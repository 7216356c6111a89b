use Rattle.avr_macro.proofs.Whole.{unique}
use Rattle.avr_macro.proofs.laws.expansion_is_unique.Goals as goal

pub returns : goal.returns
returns c = unique
