use Rattle.std.proofs.Common.{refl}
use Rattle.uz_files.specs.declared.status.Status.TheVariants.{NoMemory}
use Rattle.uz_files.proofs.PrintedLemmas.{comes_ended, lacks_after}
use Rattle.uz_certificate_commands.proofs.demo_run.end_demo.Goals as goal

pub returns-in-Ok-clause-comes : goal.returns-in-Ok-clause-comes
returns-in-Ok-clause-comes g c = λ printed files old before.
    comes_ended c.in-Ok.ending printed _ _ c.end_with.result _ files old _ _ c.in-Ok.ensures before (c.end_with.ensures.comes files)

pub returns-in-Err-clause-comes : goal.returns-in-Err-clause-comes
returns-in-Err-clause-comes g c = λ printed files old before.
    lacks_after printed _ _ NoMemory _ files old _ before refl
