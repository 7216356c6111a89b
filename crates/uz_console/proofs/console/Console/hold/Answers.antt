use Rattle.uz_pads.specs.Pads.{times_held}
use Rattle.uz_console.proofs.HoldLaws.{hold_stands}
use Rattle.uz_console.proofs.console.Console.hold.Goals as goal

pub returns-clause-stands : goal.returns-clause-stands
returns-clause-stands c = hold_stands c.args.self.now c.hold_parts.new.self c.args.pad (times_held c.hold_parts.result c.args.times)
    c.hold_parts.ensures
