use Rattle.std.proofs.Common.{◌∙◌}
use Rattle.uz_files.specs.declared.status.Status.TheVariants.{Usage}
use Rattle.uz_top.specs.Topics.{usage_line}
use Rattle.uz_files.proofs.EndingLemmas.{comes_of_line}
use Rattle.uz_top.proofs.top.end_usage.Goals as goal

pub returns-clause-comes : goal.returns-clause-comes
returns-clause-comes g c = λ files.
    comes_of_line Usage usage_line c.as_bytes.result.now _ _ _ _ (c.as_bytes.ensures.value ∙ c.usage_line.ensures)
    (c.end_fault.ensures.comes files)
