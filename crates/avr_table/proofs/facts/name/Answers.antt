use Rattle.std.proofs.Common.{◌∙◌}
use Rattle.avr_table.proofs.RowLemmas.{name_kept}
use Rattle.avr_table.proofs.facts.name.Goals as goal

pub returns : goal.returns
returns c = c.name_at.ensures ∙ name_kept c.args.i.now c.row_facts.result c.row_facts.ensures
