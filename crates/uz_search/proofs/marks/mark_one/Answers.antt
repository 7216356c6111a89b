use Rattle.std.proofs.Common.{ap, refl, slice_set}
use Rattle.uz_search.proofs.MarkingLemmas.{marks_new}
use Rattle.uz_search.proofs.marks.mark_one.Goals as goal

pub returns-then-is_unpassed : goal.returns-then-is_unpassed
returns-then-is_unpassed c =
    marks_new c.args.marks.now (slice_set c.args.marks.now c.args.place c.of.result) c.args.place c.mark_at-mark.result c.args.event
    c.mark_at-mark.ensures (c.if-is_unpassed.ensures.0 refl) (ap (slice_set c.args.marks.now c.args.place) c.of.ensures)
