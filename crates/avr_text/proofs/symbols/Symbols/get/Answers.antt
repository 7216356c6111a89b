use Rattle.std.specs.FinMap as map
use Rattle.avr_text.proofs.SymbolMaps.{get_name}
use Rattle.avr_text.proofs.symbols.Symbols.get.Goals as goal

pub returns : goal.returns
returns c = cc (c.copied.ensures, c.get.ensures.value, get_name c.self.inside.values.entries c.args.name.now, c.self.view_is)
