use Rattle.std.proofs.Common.{sym}
use Rattle.uz_files.specs.declared.status.Status.TheVariants.{Done}
use Rattle.uz_files.proofs.EndingLemmas.{comes_of_line, same_one_line}
use Rattle.uz_files.proofs.ending.end_with.Goals as goal

pub returns-in-Done-clause-comes : goal.returns-in-Done-clause-comes
returns-in-Done-clause-comes g c = λ files.
    same_one_line Done c.args.ending.now.status _ _ _ _ _ _ c.in-Done.is (sym c.as_slice.ensures.value) (c.end_done.ensures.comes files)

pub returns-in_default-clause-comes : goal.returns-in_default-clause-comes
returns-in_default-clause-comes g c = λ files.
    comes_of_line c.args.ending.now.status _ _ _ _ _ _ c.as_slice-in_default.ensures.value (c.end_fault.ensures.comes files)
