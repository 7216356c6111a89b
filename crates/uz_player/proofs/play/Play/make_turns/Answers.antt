use Rattle.std.proofs.Common.{refl, arith}
use Rattle.uz_player.proofs.PlayLaws.{has_turned}
use Rattle.uz_player.proofs.play.Play.make_turns.Goals as goal

pub returns : goal.returns
returns c =
    let old = c.args.self.now in
    let new = record old { console = c.advance-stop.new.self; edges = c.advance-stop.new.edges; next = 0 } in
    has_turned c.args.until old new c.advance-stop.new.edges.items c.advance-stop.result refl refl c.requires.none
    (omega (arith, c.len-few.ensures.value, c.len-few.ensures.fits)) c.advance-stop.ensures.run c.advance-stop.ensures.time
