use Rattle.uz_explanations.proofs.Ranks.{place_within, placed_from}
use Rattle.uz_explanations.proofs.ranking.place.Goals as goal

pub insert-requires : goal.insert-requires
insert-requires c = place_within c.args.crowd.count _ _ c.as_slice.result.now c.before-at.ensures c.as_slice.ensures.len

pub returns : goal.returns
returns c = placed_from c.args.crowd c.args.crowds.now.items c.as_slice.result.now c.insert.new.self.items c.truncate.new.self.items
    c.before-at.result c.before-at.ensures c.as_slice.ensures.value c.in_ok-insert.ensures.items c.truncate.ensures.items
