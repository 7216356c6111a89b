use Rattle.uz_player.specs.declared.calls.Called.{Called}
use Rattle.uz_player.proofs.CallLaws.{calls_on}
use Rattle.uz_player.proofs.calls.play_frame.Goals as goal

pub returns : goal.returns
returns c =
    let called : Called = record { frame = c.in_ok-frame.frame; state = c.state.result; latches = c.pads_taken.result } in
    calls_on c.args.pad c.args.clocks c.args.image c.args.state.now called c.in_ok-play.play c.frame.new.self c.args.out.now.items
    c.frame.new.out.items c.in_ok-play.ensures.stands c.in_ok-play.ensures.left c.in_ok-play.ensures.clock c.in_ok-frame.ensures
    c.state.ensures.stands c.state.ensures.left c.state.ensures.clock c.pads_taken.ensures.stands
