use Rattle.uz_player.proofs.StateLaws.{seen_in}
use Rattle.uz_player.proofs.state_parts.scanner_of.Goals as goal

pub returns-clause-stands : goal.returns-clause-stands
returns-clause-stands c = λ edges h. c.of_state.ensures.stands edges (seen_in c.args.state.now c.picture_of.result edges c.picture_of.ensures h)
