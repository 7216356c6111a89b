use Rattle.std.proofs.Common.{◌++◌, ◌∙◌, ap}
use Rattle.uz_explanations.specs.Explanations.{explanation}
use Rattle.uz_explanations.proofs.explaining.explain.Goals as goal

pub returns : goal.returns
returns c read is =
    c.in_ok-add_explanation.ensures read is
    ∙ ap (λ text. text ++ explanation c.args.image.now read c.args.labels.now c.args.why.now) c.new-text.ensures.items
