use Rattle.std.proofs.Common.{◌≡◌, arith}
use Rattle.uz_player.specs.Frames.{clock_of, end_of}
use Rattle.uz_player.proofs.FrameLaws.{frame_plays}
use Rattle.uz_player.proofs.play.Play.frame.Goals as goal

pub returns : goal.returns
returns c =
    let old = c.args.self.now in
    let until : c.min-until.result ≡ end_of (clock_of old) c.args.clocks = omega (arith, c.in_ok-hold.ensures.1) in
    frame_plays c.args.pad c.args.clocks c.min-until.result old c.hold.new.self c.frame_until.new.self c.args.out.now.items
    c.frame_until.new.out.items c.frame_until.result c.in_ok-hold.ensures until c.frame_until.ensures
