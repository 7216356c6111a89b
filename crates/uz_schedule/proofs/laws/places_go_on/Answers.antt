use Rattle.uz_schedule.proofs.Places.{at_more, at_next, at_after, place_inside}
use Rattle.uz_schedule.proofs.laws.places_go_on.Goals as goal

pub returns-clause-more : goal.returns-clause-more
returns-clause-more c = at_more

pub returns-clause-next : goal.returns-clause-next
returns-clause-next c = at_next

pub returns-clause-after : goal.returns-clause-after
returns-clause-after c = at_after

pub returns-clause-inside : goal.returns-clause-inside
returns-clause-inside c = place_inside
