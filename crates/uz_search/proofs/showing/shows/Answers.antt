use Rattle.uz_search.proofs.Common.{ap, sym, ◌∙◌, true≢false, most_clocks}
use Rattle.uz_search.proofs.ShowingLemmas.{shows_with, shows_nothing}
use Rattle.uz_search.proofs.showing.shows.Goals as goal

pub returns-in-Ok : goal.returns-in-Ok
returns-in-Ok c =
    let p = c.args.program.now in
    let x = c.args.at.now in
    shows_with c.args.image.now p x c.args.shown.place c.args.shown.event c.put_results.new.next c.passes.result c.most_clocks.result
    c.in-Ok.ensures.ok (λ main. true≢false (sym (c.if-is_main.ensures.1 main)))
    (c.most_clocks.ensures.clocks ∙ ap (most_clocks p x) c.as_slice.ensures.value) c.passes.ensures

pub returns-in-Err : goal.returns-in-Err
returns-in-Err c = (
  λ t. absurd (true≢false (sym t)),
  λ shows. absurd (shows_nothing c.args.image.now c.args.program.now c.args.at.now c.args.shown.place c.args.shown.event c.in-Err.field-0
      c.in-Err.ensures.err shows),
)
