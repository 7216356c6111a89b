use Rattle.uz_pads.specs.Pads.{times_held}
use Rattle.uz_pads.proofs.Holding.{holds}
use Rattle.uz_pads.proofs.pads.Pads.hold.Goals as goal

pub returns-clause-stands : goal.returns-clause-stands
returns-clause-stands c = holds c.args.self.now c.hold_in_list.new.self c.args.pad (times_held c.hold_in_list.result c.args.times)
    c.hold_in_list.ensures.list c.hold_in_list.ensures.state
