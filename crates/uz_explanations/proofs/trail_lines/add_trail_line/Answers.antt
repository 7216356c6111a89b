use Rattle.std.proofs.Common.{◌++◌, ◌∙◌, ap}
use Rattle.std.proofs.lemmas.Result.{on_ok_weaker}
use Rattle.uz_explanations.specs.TrailLines.{trail_line}
use Rattle.uz_explanations.proofs.trail_lines.add_trail_line.Goals as goal

pub returns : goal.returns
returns c = on_ok_weaker c.add_line.result
    (λ added read is. added
    ∙ ap (λ row. c.args.text.now.items ++ trail_line c.args.image.now c.args.labels.now row c.args.at.now)
    (c.row_at-row.ensures.same (read c.args.at.now.pc) (is c.args.at.now.pc)))
    c.add_line.ensures
