use Rattle.std.proofs.Common.{refl}
use Rattle.uz_shelf.proofs.HeldLemmas.{replaced_first}
use Rattle.uz_shelf.proofs.memory_shelf.replace_first.Goals as goal

pub returns-clause-files : goal.returns-clause-files
returns-clause-files c = replaced_first c.args.files.now.items c.index_mut-first.result.now _ c.index_mut-first.ensures.value refl
