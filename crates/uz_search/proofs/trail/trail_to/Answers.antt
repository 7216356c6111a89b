use Rattle.uz_search.proofs.Common.{◌<◌, subst, sym, ap, ◌∙◌, reverse, arith, IsTrail}
use Rattle.uz_search.proofs.TrailLemmas.{read_more, read_all, ReadBack}
use Rattle.uz_search.proofs.trail.trail_to.Goals as goal

pub climb-preserved : goal.climb-preserved
climb-preserved c =
    let nodes = c.args.nodes.now in
    let parents = c.args.parents.now in
    let below : c.in-Some.parent < c.climb.at = c.requires.earlier c.climb.at c.in-Some.parent c.in-Some.ensures in
    record {
      within = omega arith;
      so_far = subst (λ l. ReadBack nodes parents c.args.node c.in-Some.parent l) (sym c.in_ok-push.ensures.items)
          (read_more nodes parents c.args.node c.climb.at c.in-Some.parent c.climb.back.items c.copy_at.result
          c.climb.invariant.so_far c.in-Some.ensures c.copy_at.ensures);
    }

pub returns : goal.returns
returns c =
    let nodes = c.args.nodes.now in
    let parents = c.args.parents.now in
    record {
      trail = λ image program x are at_x. subst (λ l. IsTrail image program l x)
          (sym (c.from_vec.ensures ∙ c.reverse.ensures.items ∙ ap reverse c.in_ok-push-2.ensures.items))
          (read_all nodes parents c.args.node c.climb.at c.climb.back.items c.copy_at-2.result
          c.climb.invariant.so_far c.in_default.ensures c.copy_at-2.ensures image program x are at_x);
    }
