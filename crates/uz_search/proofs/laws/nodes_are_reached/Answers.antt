use Rattle.uz_search.proofs.Common.{subst, slice_get_within, Among, followers_of}
use Rattle.uz_search.proofs.OneResult.{one_next}
use Rattle.uz_search.proofs.Standing.{stands_all}
use Rattle.uz_search.proofs.TrailLaws.{all_on_trails}
use Rattle.uz_search.proofs.laws.nodes_are_reached.Goals as goal

pub returns : goal.returns
returns c = record {
  on_trail = λ image p s x ended node. all_on_trails image p s.nodes.keys s.parents.items ended.tree x node;
  closed = λ image p s x y ended node follows.
      let t = ended.treated node.0 x (slice_get_within s.nodes.keys node.0 x node.1) node.1 in
      t.follow y (subst (λ n. Among (followers_of p x n) y) (one_next image p x follows.next t.next follows.after t.after) follows.is);
  stand = λ image p s x fits ended node. stands_all image p s.nodes.keys s.parents.items fits ended.tree x node;
}
