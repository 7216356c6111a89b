use Rattle.std.proofs.Common.{refl}
use Rattle.uz_pads.specs.Pads.{times_held}
use Rattle.uz_player.proofs.PlayLaws.{holds_at}
use Rattle.uz_player.proofs.play.Play.hold.Goals as goal

pub returns : goal.returns
returns c =
    let old = c.args.self.now in
    let new = record old { console = c.hold.new.self } in (
      holds_at old new c.args.pad (times_held c.hold.result 65536) refl refl c.hold.ensures.clock c.hold.ensures.stands,
      c.hold.ensures.clock,
      refl,
    )
