use Rattle.std.proofs.Common.{refl}
use Rattle.uz_console.specs.Consoles.{state_of}
use Rattle.uz_console.proofs.EntryLaws.{main_least}
use Rattle.uz_console.proofs.console.Console.least_entry.Goals as goal

pub returns-in-Main : goal.returns-in-Main
returns-in-Main c = main_least c.args.cert.now (state_of c.args.self.now) _ c.in-Main.is (c.if-not-matches_entry.ensures.0 refl)
    c.at_rests.ensures
