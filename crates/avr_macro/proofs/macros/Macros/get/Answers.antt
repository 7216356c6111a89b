use Rattle.std.specs.FinMap as map
use Rattle.avr_macro.proofs.MacroMaps.{get_name, lent_body}
use Rattle.avr_macro.proofs.macros.Macros.get.Goals as goal

pub returns : goal.returns
returns c = cc (lent_body c.get.result, c.get.ensures.value, get_name c.self.inside.bodies.entries c.args.name.now, c.self.view_is)
