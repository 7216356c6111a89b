use Rattle.uz_cert_writer.proofs.{Common.◌++◌, Common.◌∙◌, Common.ap, WholeLines.point_is}
use Rattle.std.specs.Prelude.{ℕ, List}
use Rattle.uz_cert_writer.proofs.state_lines.add_point.Goals as goal

pub returns : goal.returns
returns c = c.in_ok-add_point_words.ensures ∙ ap (λ (t : List ℕ). c.args.text.now.items ++ t) (point_is c.args.cells.now c.args.point.now)
