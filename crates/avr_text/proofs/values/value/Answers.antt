use Rattle.std.proofs.Common.{◌∙◌}
use Rattle.avr_text.proofs.TreesRead.{reads_whole}
use Rattle.avr_text.proofs.MeaningsFormed.{form_unless}
use Rattle.avr_text.proofs.values.value.Goals as goal

pub returns-clause-tree : goal.returns-clause-tree
returns-clause-tree c = λ tree d. c.read.ensures ∙ reads_whole c.args.text.now c.args.tokens.now c.args.symbols.now c.args.dot tree d

pub returns-clause-form : goal.returns-clause-form
returns-clause-form c = form_unless c.args.text.now c.args.tokens.now c.args.symbols.now c.args.dot c.read.result c.read.ensures
