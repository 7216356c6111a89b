use Rattle.std.proofs.Common.{◌++◌, ◌∙◌, ap, sym, append-nil}
use Rattle.std.proofs.lemmas.Result.{on_ok_weaker}
use Rattle.std.specs.Option.{option_copied}
use Rattle.uz_explanations.specs.Ways.{last_text}
use Rattle.uz_explanations.proofs.ways.add_last_of.Goals as goal

pub returns-in-Some : goal.returns-in-Some
returns-in-Some c = on_ok_weaker c.add_last.result
    (λ added read is. added read is
    ∙ ap (λ last. c.args.text.now.items ++ last_text c.args.image.now read c.args.labels.now (option_copied last)) (sym c.in-Some.is))
    c.add_last.ensures

pub returns-in-None : goal.returns-in-None
returns-in-None c read is =
    sym (append-nil c.args.text.now.items)
    ∙ ap (λ last. c.args.text.now.items ++ last_text c.args.image.now read c.args.labels.now (option_copied last)) (sym c.in-None.is)
