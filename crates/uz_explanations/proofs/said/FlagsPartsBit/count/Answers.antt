use Rattle.uz_explanations.specs.declared.parts.Value.TheVariants as what
use Rattle.uz_explanations.proofs.SeenLemmas.{no_part}
use Rattle.uz_explanations.proofs.said.FlagsPartsBit.count.Goals as goal

pub returns : goal.returns
returns c = no_part what.Flag c.args.x.now.flags c.length_of.result c.length_of.ensures
