use Rattle.uz_search.proofs.Common.{Some, sym, ap, ◌∙◌, slice_get-get_or, entries}
use Rattle.uz_search.proofs.Lists.{flat_next}
use Rattle.uz_search.proofs.program.entries_after.Goals as goal

pub push_entries-requires-clause-line : goal.push_entries-requires-clause-line
push_entries-requires-clause-line c = c.requires.each c.end-item.result (
  c.each.end-index,
  slice_get-get_or c.args.ends.now c.each.end-index c.end-item.result c.each-test.true ∙ ap Some (sym c.end-item.is),
)

pub each-preserved : goal.each-preserved
each-preserved c = flat_next (entries c.args.program.now) c.args.ends.now c.each.follow.items _ _ c.each.end-index c.end-item.result
    c.each-test.true c.end-item.is c.in_ok-push_entries.ensures c.each.invariant
