use Rattle.std.proofs.Common.{◌++◌, ◌∙◌, ap}
use Rattle.std.proofs.lemmas.Result.{on_ok_weaker}
use Rattle.uz_explanations.specs.Ways.{last_shown}
use Rattle.uz_explanations.proofs.ways.add_last_shown.Goals as goal

pub returns : goal.returns
returns c = on_ok_weaker c.add_shown_of.result
    (λ added read is. added read is
    ∙ ap (λ x. c.args.text.now.items ++ last_shown c.args.image.now read x) c.last_of.ensures)
    c.add_shown_of.ensures
