use Rattle.avr_asm.proofs.MapLaws.{labels_are, hint_lines_are, as_many}
use Rattle.avr_asm.proofs.laws.map_is_of_statements.Goals as goal

pub returns-clause-labels : goal.returns-clause-labels
returns-clause-labels c = labels_are

pub returns-clause-hint_lines : goal.returns-clause-hint_lines
returns-clause-hint_lines c = hint_lines_are

pub returns-clause-as_many : goal.returns-clause-as_many
returns-clause-as_many c = as_many
