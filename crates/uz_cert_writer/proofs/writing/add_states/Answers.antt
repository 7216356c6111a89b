use Rattle.uz_cert_writer.proofs.Common.{◌≡◌, ◌++◌, ◌∙◌, ap, map, List, rules, Cell, Point, ended, line_end, line_of, rest_words}
use Rattle.uz_cert_writer.proofs.Common.{entry_words, point_words}
use Rattle.std.proofs.Common.{codes}
use Rattle.uz_cert_writer.proofs.Steps.{added_four}
use Rattle.uz_cert_writer.proofs.writing.add_states.Goals as goal

pub returns : goal.returns
returns c =
    let cells : c.as_slice-cells.result.now ≡ c.args.cert.now.head.cells.items = search rules in
    added_four c.args.text.now.items c.add_rests.new.text.items c.add_entry.new.text.items c.add_points.new.text.items
    c.extend_from_slice.new.self.items
    (ended (map (λ r. line_of (rest_words r)) c.args.cert.now.rests))
    (line_end (entry_words c.args.cert.now.head.cells.items c.args.cert.now.entry))
    (ended (map (λ p. line_of (point_words c.args.cert.now.head.cells.items p)) c.args.cert.now.points))
    (codes "end\n")
    (search rules)
    (c.in_ok-add_entry.ensures ∙ ap (λ (cs : List Cell). c.add_rests.new.text.items ++ line_end (entry_words cs c.args.cert.now.entry))
    cells)
    (c.in_ok-add_points.ensures
    ∙ ap (λ (cs : List Cell). c.add_entry.new.text.items ++ ended (map (λ p. line_of (point_words cs p)) c.as_slice-2.result.now)) cells
    ∙ ap (λ (ps : List Point). c.add_entry.new.text.items ++ ended (map (λ p. line_of (point_words c.args.cert.now.head.cells.items p)) ps))
    c.as_slice-2.ensures)
    (search rules)
