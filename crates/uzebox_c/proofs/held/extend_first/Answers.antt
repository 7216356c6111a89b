use Rattle.std.proofs.Common.{refl}
use Rattle.uzebox_c.proofs.HeldLaws.{extended_ok, extended_err}
use Rattle.uzebox_c.proofs.held.extend_first.Goals as goal

pub returns-clause-ok : goal.returns-clause-ok
returns-clause-ok c = extended_ok c.extend_from_slice.result c.args.files.now.items c.index_mut-first.result.now _ c.args.piece.now
    c.index_mut-first.ensures.value c.requires refl c.extend_from_slice.ensures.items

pub returns-clause-err : goal.returns-clause-err
returns-clause-err c = extended_err c.extend_from_slice.result c.args.files.now.items c.index_mut-first.result.now _ c.args.piece.now
    c.index_mut-first.ensures.value c.requires refl c.extend_from_slice.ensures.items
