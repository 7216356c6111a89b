use Rattle.uz_search.proofs.PiecesPass.{pieces_pass}
use Rattle.uz_search.proofs.ended_laws.pieces_pass.Goals as goal

pub returns : goal.returns
returns c = pieces_pass c.place_holds.ensures c.known_in_itself.ensures
