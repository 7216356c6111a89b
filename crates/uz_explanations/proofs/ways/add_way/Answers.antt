use Rattle.std.proofs.Common.{◌++◌, ◌-◌, ◌∙◌, ap, length, take}
use Rattle.std.proofs.lemmas.Result.{on_ok_weaker}
use Rattle.std.specs.Prelude.{slice_get}
use Rattle.uz_explanations.specs.Turns.{turned_lines}
use Rattle.uz_explanations.specs.Ways.{last_text}
use Rattle.uz_explanations.proofs.PieceLemmas.{two_pieces}
use Rattle.uz_explanations.proofs.ways.add_way.Goals as goal

pub returns : goal.returns
returns c = on_ok_weaker c.add_last_of.result
    (λ added read is.
    two_pieces c.args.text.now.items c.add_turned.new.text.items _
    (turned_lines c.args.image.now read c.args.labels.now (take (length c.args.trail.now - 1) c.args.trail.now))
    (last_text c.args.image.now read c.args.labels.now (slice_get c.args.trail.now (length c.args.trail.now - 1)))
    (c.in_ok-add_turned.ensures read is
    ∙ ap (λ xs. c.args.text.now.items ++ turned_lines c.args.image.now read c.args.labels.now xs) c.but_last.ensures)
    (added read is
    ∙ ap (λ x. c.add_turned.new.text.items ++ last_text c.args.image.now read c.args.labels.now x) c.last_of.ensures))
    c.add_last_of.ensures
