use Rattle.uz_console.specs.Consoles.{state_of}
use Rattle.uz_console.proofs.EntryLaws.{first_met, none_met}
use Rattle.uz_console.proofs.console.Console.meets.Goals as goal

pub returns-clause-none : goal.returns-clause-none
returns-clause-none c = none_met c.args.cert.now (state_of c.args.self.now) _ c.least_entry.ensures

pub returns-clause-first : goal.returns-clause-first
returns-clause-first c = first_met c.args.cert.now (state_of c.args.self.now) _ c.least_entry.ensures
