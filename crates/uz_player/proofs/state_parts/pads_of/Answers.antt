use Rattle.std.proofs.Common.{sym}
use Rattle.uz_player.specs.States.{pads_in, remembered}
use Rattle.uz_player.proofs.PadMemory.{pads_stand}
use Rattle.uz_player.proofs.state_parts.pads_of.Goals as goal

pub returns : goal.returns
returns c = λ history h. c.set_state.ensures.stands c.in_ok-list.list.items (remembered (pads_in c.args.state.now) history)
    (pads_stand c.args.state.now c.in_ok-list.list.items c.place_of.result c.pad_of.result history c.in_ok-list.ensures c.place_of.ensures
    c.pad_of.ensures h) (sym c.new-pads.ensures.pairs)
