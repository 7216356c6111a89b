use Rattle.std.proofs.Common.{◌++◌, ◌∙◌, ap}
use Rattle.std.proofs.lemmas.Result.{on_ok_weaker}
use Rattle.uz_explanations.specs.Known.{known_line}
use Rattle.uz_explanations.specs.TrailLines.{trail_line}
use Rattle.uz_explanations.proofs.PieceLemmas.{two_pieces}
use Rattle.uz_explanations.proofs.ways.add_last.Goals as goal

pub returns : goal.returns
returns c = on_ok_weaker c.add_known.result
    (λ added read is.
    two_pieces c.args.text.now.items _ _ (trail_line c.args.image.now c.args.labels.now c.row_at-row.result c.args.at.now)
    (known_line c.row_at-row.result c.args.at.now) c.in_ok-add_line.ensures added
    ∙ ap (λ row. c.args.text.now.items ++ (trail_line c.args.image.now c.args.labels.now row c.args.at.now ++ known_line row c.args.at.now))
    (c.row_at-row.ensures.same (read c.args.at.now.pc) (is c.args.at.now.pc)))
    c.add_known.ensures
