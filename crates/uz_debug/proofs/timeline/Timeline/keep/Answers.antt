use Rattle.uz_debug.proofs.timeline.Timeline.keep.Goals as goal

pub returns-in-Ok-clause-keeps : goal.returns-in-Ok-clause-keeps
returns-in-Ok-clause-keeps c = λ start h. record {
  here = h.here;
  first = h.first;
  saves = c.add.ensures start h.saves (h.here.0, h.here.1, c.in-Ok.ensures.stands h.here.0 h.here.2);
}
