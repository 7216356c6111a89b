use Rattle.std.proofs.Common.{◌<◌, length, arith}
use Rattle.std.proofs.lemmas.Bool.Decides.{nat_tests}
use Rattle.uz_shelf.proofs.HeldLemmas.{files_of-insert_behind}
use Rattle.uz_shelf.proofs.memory_shelf.insert_behind_first.Goals as goal

pub returns-in_ok-insert-clause-ok : goal.returns-in_ok-insert-clause-ok
returns-in_ok-insert-clause-ok c =
    let some : 0 < length c.args.files.now.items = grind (arith, nat_tests) in
    rw (c.in_ok-insert.ensures.items) (files_of-insert_behind c.args.files.now.items c.args.file c.requires.other some)
