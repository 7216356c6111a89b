use Rattle.uz_search.proofs.Common.{◌∙◌, ap, Some, slice_get-get_or}
use Rattle.uz_search.proofs.ReturningLemmas.{noted}
use Rattle.uz_search.proofs.returns.note_return.Goals as goal

pub returns-in_ok-return_of-in-None : goal.returns-in_ok-return_of-in-None
returns-in_ok-return_of-in-None c = noted c.args.returns.now c.args.end.now c.args.by c.in_ok-return_of-in-None.field-0
    (slice_get-get_or c.args.returns.now c.args.end.now.line c.index-returns-line.result c.requires ∙ ap Some c.in-None.is)
    c.in_ok-return_of-in-None.ensures.of c.in_ok-return_of-in-None.ensures.by
