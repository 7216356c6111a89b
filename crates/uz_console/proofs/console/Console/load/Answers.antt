use Rattle.uz_console.proofs.SaveLemmas.{load_stands}
use Rattle.uz_console.proofs.console.Console.load.Goals as goal

pub returns-clause-stands : goal.returns-clause-stands
returns-clause-stands c = load_stands c.args.self.now c.load_parts.new.self c.args.save.now c.load_parts.ensures
