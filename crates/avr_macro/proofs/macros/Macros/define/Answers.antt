use Rattle.std.specs.FinMap as map
use Rattle.avr_macro.proofs.MacroMaps.{put_name}
use Rattle.avr_macro.proofs.macros.Macros.define.Goals as goal

pub returns-clause-ok : goal.returns-clause-ok
returns-clause-ok c =
    cc (
      c.in_ok-insert.ensures.entries,
      put_name c.self.inside.bodies.entries c.in_ok-name.name c.args.body,
      c.in_ok-name.ensures.items,
      c.self.view_is,
    )
