use Rattle.std.proofs.Common.{◌∙◌, sym, subst}
use Rattle.uz_player.specs.Playing.{cert_of, counts_of}
use Rattle.uz_certificate_commands.specs.DemoCommand.{demo_clocks}
use Rattle.uz_certificate_commands.specs.DemoValues.{IsPlayedOut}
use Rattle.uz_certificate_commands.proofs.demo_run.run_out.Goals as goal

pub returns : goal.returns
returns c = λ start stands.
    let player = c.new-player.ensures in
    let end = c.play_out-end.result in
    let done = c.play_out-end.ensures start (player.plays start stands) in
    subst (λ counts. IsPlayedOut c.args.cert (demo_clocks c.args.cert) start end counts) (sym c.counts-counts.ensures)
    (subst (λ cert. IsPlayedOut cert (demo_clocks c.args.cert) start end (counts_of c.play_out-end.new.player)) player.cert
    (subst (λ limit. IsPlayedOut (cert_of c.new-player.result) limit start end (counts_of c.play_out-end.new.player))
    (player.limit ∙ c.three_frames-clocks.ensures.clocks) done))
