use Rattle.std.proofs.Common.{refl}
use Rattle.uz_files.specs.declared.status.Status.TheVariants.{NoMemory}
use Rattle.uz_files.proofs.EndingLemmas.{comes_done, comes_without_memory}
use Rattle.uz_files.proofs.ending.end_fault.Goals as goal

pub returns-in-Ok-clause-comes : goal.returns-in-Ok-clause-comes
returns-in-Ok-clause-comes g c = λ files. comes_done c.args.status c.args.status c.args.line.now _ files _ _ refl c.in-Ok.ensures.ok

pub returns-in-Err-Memory-clause-comes : goal.returns-in-Err-Memory-clause-comes
returns-in-Err-Memory-clause-comes g c = λ files.
    comes_without_memory c.args.status NoMemory c.args.line.now _ files _ _ refl c.in-Err-Memory.ensures.err
