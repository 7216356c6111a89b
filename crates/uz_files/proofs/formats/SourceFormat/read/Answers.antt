use Rattle.uz_files.proofs.HintCount.{few_hints}
use Rattle.uz_files.proofs.formats.SourceFormat.read.Goals as goal

pub returns-in-Ok-clause-said : goal.returns-in-Ok-clause-said
returns-in-Ok-clause-said c = c.in-Ok.ensures.relation

pub returns-in-Ok-clause-well_formed : goal.returns-in-Ok-clause-well_formed
returns-in-Ok-clause-well_formed c = few_hints c.args.text.now c.in-Ok.built c.requires c.in-Ok.ensures.relation
