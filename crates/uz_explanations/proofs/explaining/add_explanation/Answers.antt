use Rattle.std.proofs.Common.{◌++◌, ◌∙◌, ap, sym, append-nil}
use Rattle.std.proofs.lemmas.Result.{on_ok_weaker}
use Rattle.uz_explanations.specs.Explanations.{explanation}
use Rattle.uz_explanations.specs.Ways.{way_text, both_ways}
use Rattle.uz_explanations.proofs.PieceLemmas.{with_two}
use Rattle.uz_explanations.proofs.explaining.add_explanation.Goals as goal

pub returns-in-Stuck : goal.returns-in-Stuck
returns-in-Stuck c = on_ok_weaker c.add_way.result
    (λ added read is. added read is
    ∙ ap (λ trail. c.args.text.now.items ++ way_text c.args.image.now read c.args.labels.now trail) c.as_slice.ensures
    ∙ ap (λ why. c.args.text.now.items ++ explanation c.args.image.now read c.args.labels.now why) (sym c.in-Stuck.is))
    c.add_way.ensures

pub returns-in-Split : goal.returns-in-Split
returns-in-Split c = on_ok_weaker c.add_ways.result
    (λ added read is. with_two (both_ways c.args.image.now read c.args.labels.now) _ _ _ _ _ _ c.as_slice-in-Split.ensures
    c.as_slice-in-Split-2.ensures (added read is)
    ∙ ap (λ why. c.args.text.now.items ++ explanation c.args.image.now read c.args.labels.now why) (sym c.in-Split.is))
    c.add_ways.ensures

pub returns-in-Full : goal.returns-in-Full
returns-in-Full c = on_ok_weaker c.add_full.result
    (λ added read is. added
    ∙ ap (λ why. c.args.text.now.items ++ explanation c.args.image.now read c.args.labels.now why) (sym c.in-Full.is))
    c.add_full.ensures

pub returns-in-Hint : goal.returns-in-Hint
returns-in-Hint c read is =
    sym (append-nil c.args.text.now.items)
    ∙ ap (λ why. c.args.text.now.items ++ explanation c.args.image.now read c.args.labels.now why) (sym c.in-Hint.is)

pub returns-in-NoRest : goal.returns-in-NoRest
returns-in-NoRest c read is =
    sym (append-nil c.args.text.now.items)
    ∙ ap (λ why. c.args.text.now.items ++ explanation c.args.image.now read c.args.labels.now why) (sym c.in-NoRest.is)

pub returns-in-Memory : goal.returns-in-Memory
returns-in-Memory c read is =
    sym (append-nil c.args.text.now.items)
    ∙ ap (λ why. c.args.text.now.items ++ explanation c.args.image.now read c.args.labels.now why) (sym c.in-Memory.is)
