use Rattle.std.proofs.Common.{◌++◌, ap, ◌∙◌, length, slice_get}
use Rattle.uz_search.proofs.VisitingLemmas.{adds_more, cut_more, get_at}
use Rattle.uz_search.proofs.visited.add_all.Goals as goal

pub each-preserved : goal.each-preserved
each-preserved c =
    let rest = c.in-Some.ensures.steps.0 in
    let cut = c.each.invariant.left in
    let done = c.each.yielded in
    let item = c.in-Some.item in
    record {
      left = cut_more _ _ _ _ _ cut rest;
      added = λ image program tree come. adds_more image program c.args.nodes.now.keys c.args.parent c.args.items.items done item
          c.each.nodes.keys c.each.parents.items c.add.new.nodes.keys c.add.new.parents.items
          (ap (λ l. slice_get l (length done)) (cut ∙ ap (λ r. done ++ r) rest) ∙ get_at done item c.next.new.self.rest.items) come
          (c.each.invariant.added image program tree come) c.in_ok-add.ensures;
    }
