use Rattle.std.proofs.Common.{◌∙◌}
use Rattle.uz_join.proofs.PutLemmas.{none_replaced}
use Rattle.uz_join.proofs.replacing.Replacing.new.Goals as goal

pub returns : goal.returns
returns c =
    none_replaced c.args.points.items
    (record {
      left = c.reverse.new.self;
      begun = 0;
      joined = c.reserve_exact.new.self;
    })
    c.reverse.ensures.items (c.reserve_exact.ensures.items ∙ c.new-room.ensures.items)
