use Rattle.uz_console.proofs.RunLemmas.{begins}
use Rattle.uz_console.proofs.console.Console.reset.Goals as goal

pub returns-clause-stands : goal.returns-clause-stands
returns-clause-stands c = c.in_ok-console.ensures

pub returns-clause-run : goal.returns-clause-run
returns-clause-run c limit = begins c.in_ok-console.console _ limit c.in_ok-console.ensures
