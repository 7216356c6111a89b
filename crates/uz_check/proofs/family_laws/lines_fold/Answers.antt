use Rattle.uz_check.proofs.LinesFold.{folding_law}
use Rattle.uz_check.proofs.family_laws.lines_fold.Goals as goal

pub returns : goal.returns
returns c = folding_law (record {
  by_line = c.event_by_line.ensures;
  events_round = c.positions_go_round.ensures.events;
  levels_round = c.positions_go_round.ensures.levels;
  next = c.places_go_on.ensures.next;
  inside = c.places_go_on.ensures.inside;
  goes_on = c.level_goes_on.ensures;
})
