use Rattle.std.proofs.Common.{subst}
use Rattle.uz_player.specs.Calls.{IsCalled}
use Rattle.uzebox_c.proofs.live.play.Goals as goal

pub returns-in-Ok-clause-played : goal.returns-in-Ok-clause-played
returns-in-Ok-clause-played c = (
  c.in_ok-image.image,
  c.in_ok-image.ensures.found,
  subst (λ before. IsCalled c.args.pad c.args.clocks c.in_ok-image.image c.args.state.now before c.play_frame.new.out.items c.in-Ok.called)
      c.new-records.ensures.items c.in-Ok.ensures,
)
