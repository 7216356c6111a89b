use Rattle.std.proofs.Common.{◌++◌, ◌∙◌, ap, sym, append-nil}
use Rattle.std.proofs.lemmas.Result.{on_ok_weaker}
use Rattle.std.specs.Option.{option_copied}
use Rattle.uz_explanations.specs.Ways.{last_shown, shown_line}
use Rattle.uz_explanations.proofs.ways.add_shown_of.Goals as goal

pub returns-in-Some : goal.returns-in-Some
returns-in-Some c = on_ok_weaker c.add_shown.result
    (λ added read is. added
    ∙ ap (λ row. c.args.text.now.items ++ shown_line c.args.image.now row c.in-Some.at.now)
    (c.row_at.ensures.same (read c.in-Some.at.now.pc) (is c.in-Some.at.now.pc))
    ∙ ap (λ last. c.args.text.now.items ++ last_shown c.args.image.now read (option_copied last)) (sym c.in-Some.is))
    c.add_shown.ensures

pub returns-in-None : goal.returns-in-None
returns-in-None c read is =
    sym (append-nil c.args.text.now.items)
    ∙ ap (λ last. c.args.text.now.items ++ last_shown c.args.image.now read (option_copied last)) (sym c.in-None.is)
