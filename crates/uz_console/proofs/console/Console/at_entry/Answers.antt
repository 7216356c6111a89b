use Rattle.std.proofs.lemmas.Bool.{false≢true}
use Rattle.uz_console.specs.Consoles.{state_of}
use Rattle.uz_console.proofs.EntryLaws.{alone_missed}
use Rattle.uz_console.proofs.console.Console.at_entry.Goals as goal

pub returns-else-level_matches : goal.returns-else-level_matches
returns-else-level_matches c = alone_missed c.args.cert.now (state_of c.args.self.now) _ c.position-found.ensures.position
    c.position-found.ensures.in_frame (λ l. false≢true (c.if-level_matches.ensures.1 l))
