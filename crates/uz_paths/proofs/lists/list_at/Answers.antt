use Rattle.std.proofs.Common.{◌∙◌}
use Rattle.uz_paths.proofs.ListLemmas.{few_read, in_order, is_read}
use Rattle.uz_paths.proofs.lists.list_at.Goals as goal

pub slice_bounds-copied-count : goal.slice_bounds-copied-count
slice_bounds-copied-count c = in_order c.args.lists.now c.args.i _ _ c.index.ensures c.index-2.ensures c.requires

pub copied-requires : goal.copied-requires
copied-requires c = few_read c.args.lists.now c.args.i _ _ _ c.as_slice.ensures.value c.index.ensures c.index-2.ensures c.requires

pub returns : goal.returns
returns c = λ list there.
    c.copied.ensures ∙ is_read c.args.lists.now c.args.i _ _ list _ c.as_slice.ensures.value c.index.ensures c.index-2.ensures there
