use Rattle.std.proofs.Common.{◌≡◌, ◌++◌, ◌-◌, ◌∙◌, List, ℕ, ap, codes, length}
use Rattle.std.specs.Prelude.{slice_get}
use Rattle.uz_explanations.specs.Ways.{way_text, last_shown, split_way, from_last, same_instance}
use Rattle.std.proofs.lemmas.Result.{on_ok_weaker}
use Rattle.uz_explanations.proofs.PieceLemmas.{two_pieces, ways_put}
use Rattle.uz_explanations.proofs.TurnLemmas.{within_first, within_second}
use Rattle.uz_explanations.proofs.ways.add_ways.Goals as goal

pub from_last-requires : goal.from_last-requires
from_last-requires c = within_first same_instance c.args.first.now c.args.second.now c.shared-count.result c.shared-count.ensures

pub from_last-requires-2 : goal.from_last-requires-2
from_last-requires-2 c = within_first same_instance c.args.first.now c.args.second.now c.shared-count.result c.shared-count.ensures

pub from_last-requires-3 : goal.from_last-requires-3
from_last-requires-3 c = within_second same_instance c.args.first.now c.args.second.now c.shared-count.result c.shared-count.ensures

pub from_last-requires-4 : goal.from_last-requires-4
from_last-requires-4 c = within_second same_instance c.args.first.now c.args.second.now c.shared-count.result c.shared-count.ensures

pub returns : goal.returns
returns c = on_ok_weaker c.add_last_shown-2.result
    (λ added read is.
    let way = way_text c.args.image.now read c.args.labels.now in
    let shown : List _ → List ℕ = λ trail. last_shown c.args.image.now read (slice_get trail (length trail - 1)) in
    ways_put (λ count trail. split_way c.args.image.now read c.args.labels.now (from_last count trail)) c.args.first.now c.args.second.now
    c.shared-count.result _ c.args.text.now.items c.extend_from_slice.new.self.items c.add_last_shown.new.text.items
    c.extend_from_slice-2.new.self.items c.add_last_shown-2.new.text.items (codes "way 1\n") (codes "way 2\n")
    c.shared-count.ensures c.in_ok-extend_from_slice.ensures.items
    (two_pieces c.extend_from_slice.new.self.items c.add_way.new.text.items c.add_last_shown.new.text.items
    (way (from_last c.shared-count.result c.args.first.now)) (shown (from_last c.shared-count.result c.args.first.now))
    (c.in_ok-add_way.ensures read is ∙ ap (λ xs. c.extend_from_slice.new.self.items ++ way xs) c.from_last.ensures)
    (c.in_ok-add_last_shown.ensures read is ∙ ap (λ xs. c.add_way.new.text.items ++ shown xs) c.from_last-2.ensures))
    c.in_ok-extend_from_slice-2.ensures.items
    (two_pieces c.extend_from_slice-2.new.self.items c.add_way-2.new.text.items c.add_last_shown-2.new.text.items
    (way (from_last c.shared-count.result c.args.second.now)) (shown (from_last c.shared-count.result c.args.second.now))
    (c.in_ok-add_way-2.ensures read is ∙ ap (λ xs. c.extend_from_slice-2.new.self.items ++ way xs) c.from_last-3.ensures)
    (added read is ∙ ap (λ xs. c.add_way-2.new.text.items ++ shown xs) c.from_last-4.ensures)))
    c.add_last_shown-2.ensures
