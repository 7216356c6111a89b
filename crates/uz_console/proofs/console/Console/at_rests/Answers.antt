use Rattle.std.proofs.Common.{List, [], ◌∷◌, ◌++◌, take, sym, ap, subst, ◌∙◌, arith}
use Rattle.std.proofs.lemmas.List.{take_all, take_more}
use Rattle.uz_schedule.specs.declared.states.Rest.{Rest}
use Rattle.uz_schedule.specs.Schedule.{frame_of}
use Rattle.uz_console.specs.Consoles.{state_of}
use Rattle.uz_console.specs.Entering.{EntersAtOne, IsLeast}
use Rattle.uz_console.proofs.EntryLaws.{one_more_rest}
use Rattle.uz_console.proofs.console.Console.at_rests.Goals as goal

pub loop-rest-preserved : goal.loop-rest-preserved
loop-rest-preserved c =
    let cert = c.args.cert.now in
    let state = state_of c.args.self.now in
    let items = c.as_slice-rest-items.result.now in
    let i = c.loop-rest.rest-index in
    let rest = c.rest-item.result in
    let more = take_more items i rest c.loop-rest-test.true ∙ ap (λ (r : Rest). take i items ++ r ∷ []) (sym c.rest-item.is) in
    subst (λ (xs : List Rest). IsLeast (frame_of cert.schedule) (EntersAtOne cert state xs) c.lesser-least.result) (sym more)
    (subst (λ o. IsLeast (frame_of cert.schedule) (EntersAtOne cert state (take i items ++ rest ∷ [])) o) (sym c.lesser-least.ensures)
    (one_more_rest cert state (frame_of cert.schedule) (take i items) rest c.loop-rest.least c.at_rest.result c.loop-rest.invariant
    c.at_rest.ensures))

pub returns : goal.returns
returns c =
    let all = take_all c.loop-rest.rest-index c.as_slice-rest-items.result.now (omega arith) ∙ c.as_slice-rest-items.ensures in
    subst (λ (xs : List Rest). IsLeast (frame_of c.args.cert.now.schedule) (EntersAtOne c.args.cert.now (state_of c.args.self.now) xs)
    c.loop-rest.least) all c.loop-rest.invariant
