use Rattle.uz_files.proofs.EndingLemmas.{comes_of_ok}
use Rattle.uz_files.proofs.ending.finish.Goals as goal

pub returns-in-Ok-clause-comes : goal.returns-in-Ok-clause-comes
returns-in-Ok-clause-comes g c = λ files. comes_of_ok c.args.worked c.in-Ok.ending _ _ _ _ c.in-Ok.is (c.end_with.ensures.comes files)
