use Rattle.avr_text.proofs.TreesAlone.{one_tree}
use Rattle.avr_text.proofs.laws.expression_is_unique.Goals as goal

pub returns : goal.returns
returns c = one_tree
