use Rattle.uz_search.proofs.InsideWidened.{inside_widened}
use Rattle.uz_search.proofs.ended_laws.lies_in_widened.Goals as goal

pub returns : goal.returns
returns c = inside_widened c.place_holds.ensures c.known_in_itself.ensures
