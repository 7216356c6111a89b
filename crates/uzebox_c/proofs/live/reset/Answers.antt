use Rattle.std.proofs.Common.{[], subst}
use Rattle.uz_core.specs.Turn.{history_at_reset, state_at_reset}
use Rattle.uz_schedule.specs.Schedule.{response_clocks}
use Rattle.uz_player.specs.States.{StandsFor}
use Rattle.uzebox_c.proofs.live.reset.Goals as goal

pub returns-in-Ok-clause-at : goal.returns-in-Ok-clause-at
returns-in-Ok-clause-at c = (
  c.in_ok-image.image,
  c.in_ok-image.ensures.found,
  subst (λ clocks. StandsFor c.state.result (state_at_reset c.in_ok-image.image (history_at_reset []) clocks) []) c.response_of.ensures
      (c.state.ensures.stands (state_at_reset c.in_ok-image.image (history_at_reset []) (response_clocks c.response_of.result)) []
      c.in-Ok.ensures),
)
