use Rattle.uz_player.proofs.StateLaws.{seen_of}
use Rattle.uz_player.proofs.state_parts.picture_state.Goals as goal

pub returns-clause-seen : goal.returns-clause-seen
returns-clause-seen c = λ edges h. seen_of c.picture_fields.result c.state.result edges c.picture_fields.ensures.picture (c.state.ensures.seen edges h)
