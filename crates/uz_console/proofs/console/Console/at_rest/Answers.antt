use Rattle.std.proofs.Common.{ap, refl, ◌∙◌}
use Rattle.std.proofs.lemmas.Bool.{false≢true}
use Rattle.uz_core.specs.Timer.{Timer}
use Rattle.uz_console.specs.Consoles.{state_of}
use Rattle.uz_console.specs.Entering.{position_of}
use Rattle.uz_console.proofs.EntryLaws.{none_waits, rest_found, rest_missed}
use Rattle.uz_console.proofs.console.Console.at_rest.Goals as goal

pub returns-then-not-waits_at : goal.returns-then-not-waits_at
returns-then-not-waits_at c = none_waits c.args.cert.now (state_of c.args.self.now) c.args.rest.now
    (λ waits. false≢true (c.if-not-waits_at.ensures.1 waits))

pub returns-then-level_matches : goal.returns-then-level_matches
returns-then-level_matches c =
    let count = c.phase.ensures ∙ ap (λ (t : Timer). t.count) c.timer.ensures in
    let place = c.position-found.ensures.position ∙ ap (position_of c.args.cert.now.schedule c.args.rest.now.line) count in
    rest_found c.args.cert.now (state_of c.args.self.now) c.args.rest.now _ (c.if-not-waits_at.ensures.0 refl) place
    c.position-found.ensures.in_frame (c.if-level_matches.ensures.0 refl)

pub returns-else-level_matches : goal.returns-else-level_matches
returns-else-level_matches c =
    let count = c.phase.ensures ∙ ap (λ (t : Timer). t.count) c.timer.ensures in
    let place = c.position-found.ensures.position ∙ ap (position_of c.args.cert.now.schedule c.args.rest.now.line) count in
    rest_missed c.args.cert.now (state_of c.args.self.now) c.args.rest.now _ place c.position-found.ensures.in_frame
    (λ l. false≢true (c.if-level_matches.ensures.1 l))
